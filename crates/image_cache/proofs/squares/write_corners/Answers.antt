-- The values are those of the tile of the square's cell.
use Rattle.image_cache.specs.Square.{left_top}
use Rattle.image_cache.proofs.SquareLemmas.{corners_told}
use Rattle.tile_source.proofs.TexelLemmas.{level_there}
use Rattle.image_cache.proofs.squares.write_corners.Goals as goal

pub returns : goal.returns
returns g c bytes held =
    corners_told g.W.World.files g.W.World.lawful c.args.picture.now c.args.square.now
    c.args.cell.now c.args.tile.now c.depth-depth.result c.args.channels c.write_square.new.out bytes
    c.depth-depth.ensures.told c.requires.cell c.requires.keyed c.depth-depth.ensures.value
    c.write_square.ensures held

pub depth-depth-requires : goal.depth-depth-requires
depth-depth-requires g c =
    level_there c.args.picture.now (left_top c.args.square.now) c.args.cell.now c.requires.cell
