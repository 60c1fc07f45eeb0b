use Rattle.std.proofs.Common.{◌≡◌, ℕ, ◌*◌, ◌<◌, slice_index}
use Rattle.tex_make.specs.Pyramid.{seen}
use Rattle.tex_make.specs.Texture.{tile_byte}
use Rattle.tex_make.proofs.tiles.fill_tile.Given as goal

abbrev pub invariant-loop-row : goal.invariant-loop-row
invariant-loop-row l = (k : ℕ) → k < l.row * l.size → slice_index l.tile k
    ≡ tile_byte (seen l.texture.picture.now) l.texture.side l.level l.index k
