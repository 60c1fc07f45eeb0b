-- The values are those of the tile of the texel's cell.
use Rattle.tile_source.proofs.TexelLemmas.{values_told, level_there}
use Rattle.tile_source.proofs.texel.write_texel.Goals as goal

pub returns : goal.returns
returns g c bytes held =
    values_told g.W.World.files g.W.World.lawful c.args.picture.now c.args.at c.args.cell.now
    c.args.tile.now c.depth-depth.result c.write_values.new.out bytes c.depth-depth.ensures.told
    c.requires.cell c.requires.keyed c.depth-depth.ensures.value c.write_values.ensures.told held

pub depth-depth-requires : goal.depth-depth-requires
depth-depth-requires g c =
    level_there c.args.picture.now c.args.at c.args.cell.now c.requires.cell
