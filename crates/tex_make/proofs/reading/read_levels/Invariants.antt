use Rattle.std.proofs.Common.{◌+◌, ◌-◌, length, map}
use Rattle.std.specs.Option.{ForSome}
use Rattle.tile_layout.specs.Level.{width_in, height_in}
use Rattle.tex_make.specs.Level.{shown}
use Rattle.tex_make.specs.Stored.{AreLevelsOf, AreTexelsOf, HoldsAll}
use Rattle.tex_make.proofs.reading.read_levels.Given as goal

-- the levels so far are the first of the file
abbrev pub invariant-down : goal.invariant-down
invariant-down g l = record {
  are : AreLevelsOf l.layout (map shown l.levels.items);
  told : ForSome (g.B.ByteReader.bytes l.fn.reader) (λ bytes. HoldsAll bytes l.layout
      → AreTexelsOf l.layout bytes (map shown l.levels.items));
  keeps : g.B.ByteReader.keeps l.fn.reader l.reader;
}

-- the sides of the last fall
abbrev pub decreases-down : goal.decreases-down
decreases-down g l = width_in l.layout (length l.levels.items - 1)
    + height_in l.layout (length l.levels.items - 1)
