use Rattle.std.proofs.Common.{arith}
use Rattle.tile_layout.proofs.place.plane_blocks.Goals as goal

pub pieces_over-requires-in-Some-clause-piece : goal.pieces_over-requires-in-Some-clause-piece
pieces_over-requires-in-Some-clause-piece c =
    let sides = c.args.dir.now.shape_in.tile (c.in-Some.width, c.in-Some.height) c.in-Some.is in
    omega (arith, sides.0.low)

pub pieces_over-requires-in-Some-2-clause-piece : goal.pieces_over-requires-in-Some-2-clause-piece
pieces_over-requires-in-Some-2-clause-piece c =
    let sides = c.args.dir.now.shape_in.tile (c.in-Some.width, c.in-Some.height) c.in-Some.is in
    omega (arith, sides.1.low)
