use Rattle.std.proofs.Common.{arith}
use Rattle.std.proofs.Math.Nat.{mul-le-mul}
use Rattle.tiff_plain.proofs.shape.block_texels.Goals as goal

pub overflow_mul-result : goal.overflow_mul-result
overflow_mul-result c =
    let sides = c.requires.tile (c.in-Some.tile_width, c.in-Some.tile_height) c.in-Some.is in
    omega (arith, mul-le-mul sides.0.high sides.1.high)

pub returns-in-Some-clause-fits : goal.returns-in-Some-clause-fits
returns-in-Some-clause-fits c =
    let sides = c.requires.tile (c.in-Some.tile_width, c.in-Some.tile_height) c.in-Some.is in
    mul-le-mul sides.0.high sides.1.high
