use Rattle.std.proofs.Common.{arith}
use Rattle.tiff_plain.proofs.texels.block_index.Goals as goal

pub pieces_over-across-requires-clause-piece : goal.pieces_over-across-requires-clause-piece
pieces_over-across-requires-clause-piece c =
    let sides = c.requires.tile (c.in-Some.tile_width, c.in-Some.tile_height) c.in-Some.is in
    omega (arith, sides.0.low)

pub nonzero_div-result : goal.nonzero_div-result
nonzero_div-result c =
    let sides = c.requires.tile (c.in-Some.tile_width, c.in-Some.tile_height) c.in-Some.is in
    omega (arith, sides.1.low)
