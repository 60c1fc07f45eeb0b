-- Multiples of a size, and one more of them.
use Rattle.std.proofs.Common.{ℕ, ◌+◌, ◌*◌, ◌<◌, ◌≤◌, arith}
use Rattle.std.proofs.Math.Nat.{mul-le-mul_left}

-- piece i of some is one of them
pub one_more_within : (size i n : ℕ) → i < n → size * i + size ≤ size * n
one_more_within size i n lt =
    let le : i + 1 ≤ n = omega arith in
    let more : size * (i + 1) ≤ size * n = mul-le-mul_left size le in
    omega (arith, more)
