-- A number of 10 decimal digits fits 64 bits.
use Rattle.std.proofs.Common.{ℕ, ◌+◌, ◌*◌, ◌^◌, ◌<◌, ◌≤◌, arith}
use Rattle.std.proofs.lemmas.Grind.{pow_more}
use Rattle.std.proofs.Math.Nat.{pow-le-pow_right}

pub digit_fits : (n i : ℕ) → n < 10 ^ i → i < 10 → n * 10 + 9 < 2 ^ 64
digit_fits n i below few =
    let most : 10 ^ (i + 1) ≤ 10 ^ 10 =
    pow-le-pow_right {n = 10} (omega arith) {i = i + 1} {j = 10} (omega arith) in
    omega (arith, pow_more 10 i)
