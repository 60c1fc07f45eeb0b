use Rattle.std.proofs.Common.{arith}
use Rattle.short_text.proofs.DigitLemmas.{digit_fits}
use Rattle.short_text.proofs.digits.leading_digits.Goals as goal

pub overflow_mul-number : goal.overflow_mul-number
overflow_mul-number c =
    omega (
      arith,
      digit_fits c.digits.number c.digits.count c.digits.invariant.below (omega arith),
    )

pub overflow_add-number : goal.overflow_add-number
overflow_add-number c =
    grind (
      arith,
      digit_fits c.digits.number c.digits.count c.digits.invariant.below (omega arith),
    )
