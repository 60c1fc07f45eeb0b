-- What an index inside the row means.
use Rattle.std.proofs.Common.{◌≡◌, ℕ, ◌-◌, ◌*◌, ◌/◌, ◌%◌, ◌<◌, min, ℤ, pos, Some, refl, ap}
use Rattle.std.proofs.Common.{arith}
use Rattle.std.proofs.lemmas.Bool.{lt-ltb}
use Rattle.std.proofs.lemmas.Nat.{div_below, div-add-mod'}
use Rattle.texel_filter.specs.declared.mode.Wrap.{Wrap}
use Rattle.texel_filter.specs.declared.mode.Wrap.TheVariants.{Black, Clamp, Periodic, Mirror}
use Rattle.texel_filter.specs.WrapMode.{wrapped_index, index_there_and_back}

-- a number below the divisor is its own rest, and the quotient is 0
pub quotient_below : (m n : ℕ) → m < n → m / n ≡ 0
quotient_below m n below =
    let less : m / n < 1 = div_below m n 1 (omega arith) (omega arith) in omega arith

pub rest_below : (m n : ℕ) → m < n → m % n ≡ m
rest_below m n below = omega (arith, div-add-mod' m n, ap (λ q. q * n) (quotient_below m n below))

pub there_inside : (m n : ℕ) → m < n → index_there_and_back m n ≡ m
there_inside m n below = rw (quotient_below m n below) (rest_below m n below)

pub wrapped_inside : (mode : Wrap) (m n : ℕ) → m < n → wrapped_index mode (pos m) n ≡ Some m
unfolding wrapped_index
wrapped_inside Black m n below = rw (lt-ltb m n below) refl
wrapped_inside Clamp m n below =
    let least : min m (n - 1) ≡ m = omega arith in ap Some least
wrapped_inside Periodic m n below = ap Some (rest_below m n below)
wrapped_inside Mirror m n below = ap Some (there_inside m n below)

-- the same of the index as a whole number
pub wrapped_there : (mode : Wrap) (i : ℤ) (m n : ℕ) → i ≡ pos m → m < n
    → wrapped_index mode i n ≡ Some m
wrapped_there mode i m n is below = rw is (wrapped_inside mode m n below)
