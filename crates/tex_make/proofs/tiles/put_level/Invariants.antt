use Rattle.std.proofs.Common.{◌≤◌}
use Rattle.tex_world.specs.Stream.{Appends}
use Rattle.tex_make.specs.Joined.{joined}
use Rattle.tex_make.specs.Pyramid.{seen}
use Rattle.tex_make.specs.Texture.{tile_bytes}
use Rattle.tex_make.proofs.tiles.put_level.Given as goal

abbrev pub invariant-loop-index : goal.invariant-loop-index
invariant-loop-index g l = record {
  written : Appends (joined (tile_bytes (seen l.texture.picture.now) l.texture.side l.level) l.index)
      (g.O.Sink.holds l.initial.out) (g.O.Sink.holds l.out);
  faults : g.O.Sink.faults l.initial.out ≤ g.O.Sink.faults l.out;
}
