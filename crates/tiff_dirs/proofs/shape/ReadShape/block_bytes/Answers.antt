use Rattle.std.proofs.Common.{arith}
use Rattle.std.proofs.Math.Nat.{mul-le-mul}
use Rattle.tiff_dirs.proofs.shape.ReadShape.block_bytes.Goals as goal

pub overflow_mul-result : goal.overflow_mul-result
overflow_mul-result c = omega (
  arith,
  mul-le-mul c.block_texels.ensures.few c.texel_bytes.ensures.few,
)
