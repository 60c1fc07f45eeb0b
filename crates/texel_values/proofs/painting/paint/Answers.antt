-- The texels of the tile are those of its file.
use Rattle.texel_values.proofs.ValueLemmas.{told_paint}
use Rattle.texel_values.proofs.painting.paint.Goals as goal

pub returns-clause-told : goal.returns-clause-told
returns-clause-told g c =
    told_paint g.W.World.files c.args.tile.now c.args.depth c.args.window.now c.args.height
    c.args.values.now c.paint_tile.new.values c.key.ensures.told c.key.ensures.tile
    c.requires.channels c.paint_tile.ensures.paints
