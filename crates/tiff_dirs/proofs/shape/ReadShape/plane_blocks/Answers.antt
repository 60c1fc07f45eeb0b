use Rattle.std.proofs.Common.{arith}
use Rattle.tiff_dirs.proofs.shape.ReadShape.plane_blocks.Goals as goal

pub pieces-requires-in-Some-clause-piece : goal.pieces-requires-in-Some-clause-piece
pieces-requires-in-Some-clause-piece c =
    let sides = c.args.self.now.shape_in.tile (c.in-Some.width, c.in-Some.height) c.in-Some.is in
    omega (arith, sides.0.low)

pub pieces-requires-in-Some-2-clause-piece : goal.pieces-requires-in-Some-2-clause-piece
pieces-requires-in-Some-2-clause-piece c =
    let sides = c.args.self.now.shape_in.tile (c.in-Some.width, c.in-Some.height) c.in-Some.is in
    omega (arith, sides.1.low)
