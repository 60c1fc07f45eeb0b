-- Numbers of a lookup as the code reads and moves them.
use Rattle.std.proofs.Common.{◌≡◌, ◌^◌, ℤ, pos, neg_ℤ, ◌+ℤ◌, ◌≤ℤ◌, w32, w64, to_z, of_z, arith}
use Rattle.tex_aniso.specs.Shape.{IsPixelStep}
use Rattle.std.proofs.lemmas.Int.{ints}
use Rattle.texel_filter.specs.Deriv.{IsDerivNumber}

pub read_is : (z : ℤ) → IsDerivNumber z → to_z w32 (of_z w32 z) ≡ z
read_is z is = omega (arith, ints, is.low, is.high)

pub moved_is : (z by : ℤ) → IsDerivNumber z → neg_ℤ (pos (2 ^ 29)) ≤ℤ by → by ≤ℤ pos (2 ^ 29)
    → to_z w32 (of_z w32 (to_z w32 (of_z w32 z) +ℤ to_z w32 (of_z w32 by))) ≡ z +ℤ by
moved_is z by is low high = omega (arith, ints, is.low, is.high)

pub step_read : (z : ℤ) → IsPixelStep z → to_z w64 (of_z w64 z) ≡ z
step_read z is = omega (arith, ints, is.low, is.high)
