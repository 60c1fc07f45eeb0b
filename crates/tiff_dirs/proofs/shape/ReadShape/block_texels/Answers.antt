use Rattle.std.proofs.Common.{◌≤◌, arith}
use Rattle.std.proofs.Math.Nat.{mul-le-mul}
use Rattle.tiff_format.specs.Limits.{max_side}
use Rattle.tiff_dirs.proofs.shape.ReadShape.block_texels.Goals as goal

pub returns-in-Some-clause-few : goal.returns-in-Some-clause-few
returns-in-Some-clause-few c =
    let sides = c.args.self.now.shape_in.tile (c.in-Some.width, c.in-Some.height) c.in-Some.is in
    let wide : c.from-in-Some.result ≤ max_side = omega (arith, sides.0.high) in
    let high : c.from-in-Some-2.result ≤ max_side = omega (arith, sides.1.high) in
    mul-le-mul wide high
