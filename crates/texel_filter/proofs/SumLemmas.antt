-- The weights of four texels are 2 ^ 32 together, and their sums stand in a list.
use Rattle.std.proofs.Common.{◌≡◌, ◌≢◌, ℕ, ◌+◌, ◌-◌, ◌*◌, ◌^◌, ◌<◌, ap, arith, List, length}
use Rattle.std.proofs.Common.{set, get_or, get_or-set_other, get_or-set_same, below_more}

shares : (a b f g : ℕ) → a + f ≡ 65536 → b + g ≡ 65536 → a * b + f * b + a * g + f * g ≡ 2 ^ 32
shares a b f g across down =
    let upper : (a + f) * b ≡ 65536 * b = ap (λ x. x * b) across in
    let lower : (a + f) * g ≡ 65536 * g = ap (λ x. x * g) across in
    omega (arith, upper, lower)

pub whole_weights : (f g : ℕ) → f < 65536 → g < 65536
    → (65536 - f) * (65536 - g) + f * (65536 - g) + (65536 - f) * g + f * g ≡ 2 ^ 32
whole_weights f g fits gits = shares (65536 - f) (65536 - g) f g (omega arith) (omega arith)

-- one factor of four numbers is one of their sum
pub scaled_sum : (a b d e x y z w : ℕ)
    → 257 * (a * x + b * y + d * z + e * w)
    ≡ a * (257 * x) + b * (257 * y) + d * (257 * z) + e * (257 * w)
scaled_sum a b d e x y z w = omega arith

-- if P is true of the first n numbers and of v, it is true of the first n + 1 once v is at place n
pub one_more : (P : ℕ → ℕ → Type 0) (n : ℕ) (listed : List ℕ) (v : ℕ) → n < length listed
    → ((k : ℕ) → k < n → P k (get_or listed k 0)) → P n v
    → (k : ℕ) → k < n + 1 → P k (get_or (set listed n v) k 0)
one_more P n listed v low first last =
    below_more (λ k. P k (get_or (set listed n v) k 0)) n
    (λ k h. let ne : k ≢ n = omega arith in rw get_or-set_other (first k h))
    (rw get_or-set_same last)
