use Rattle.std.proofs.Common.{arith}
use Rattle.tile_layout.proofs.place.texels_before.Goals as goal

pub nonzero_rem-y-in-Some : goal.nonzero_rem-y-in-Some
nonzero_rem-y-in-Some c =
    let tile = c.args.dir.now.shape_in.tile (c.in-Some.width, c.in-Some.height) c.in-Some.is in
    omega (arith, tile.1.low)

pub nonzero_rem-x : goal.nonzero_rem-x
nonzero_rem-x c =
    let tile = c.args.dir.now.shape_in.tile (c.in-Some.width, c.in-Some.height) c.in-Some.is in
    omega (arith, tile.0.low)
