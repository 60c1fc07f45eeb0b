use Rattle.std.proofs.Common.{arith}
use Rattle.tiff_plain.proofs.shape.plane_blocks.Goals as goal

pub pieces_over-requires-clause-piece : goal.pieces_over-requires-clause-piece
pieces_over-requires-clause-piece c =
    let sides = c.requires.tile (c.in-Some.tile_width, c.in-Some.tile_height) c.in-Some.is in
    omega (arith, sides.0.low)

pub pieces_over-requires-in-Some-clause-piece : goal.pieces_over-requires-in-Some-clause-piece
pieces_over-requires-in-Some-clause-piece c =
    let sides = c.requires.tile (c.in-Some.tile_width, c.in-Some.tile_height) c.in-Some.is in
    omega (arith, sides.1.low)
