use Rattle.std.proofs.Common.{◌≤◌, arith}
use Rattle.std.proofs.Math.Nat.{mul-le-mul}
use Rattle.tiff_format.specs.Limits.{max_channels}
use Rattle.tiff_format.proofs.Planes.{plane_count}
use Rattle.tiff_dirs.proofs.shape.ReadShape.blocks.Goals as goal

pub overflow_mul-result : goal.overflow_mul-result
overflow_mul-result c =
    let shape = c.args.self.now in
    let planes = plane_count shape.channels shape.planes shape.shape_in.planes
    shape.shape_in.channels in
    let few : c.from.result ≤ max_channels = omega (arith, planes.1) in
    omega (arith, mul-le-mul few c.plane_blocks.ensures.few)
