use Rattle.std.proofs.Common.{◌≡◌, ◌≤◌, length}
use Rattle.tex_world.specs.Stream.{Appends}
use Rattle.tex_make.specs.Joined.{joined}
use Rattle.tex_make.specs.Pyramid.{seen}
use Rattle.tex_make.specs.Texture.{level_tiles, tile_size}
use Rattle.tex_make.proofs.tiles.put_levels.Given as goal

abbrev pub invariant-loop-level : goal.invariant-loop-level
invariant-loop-level g l = record {
  size : length l.tile ≡ tile_size (seen l.texture.picture.now) l.texture.side;
  written : Appends (joined (level_tiles (seen l.texture.picture.now) l.texture.side) l.level)
      (g.O.Sink.holds l.initial.out) (g.O.Sink.holds l.out);
  faults : g.O.Sink.faults l.initial.out ≤ g.O.Sink.faults l.out;
}
