-- A coordinate in 1/65536 of the image is exact in 1/2^32.
use Rattle.std.proofs.Common.{◌≡◌, ℕ, zero, suc, ◌+◌, ◌*◌, ◌/◌, ◌∙◌, refl, ap, arith}
use Rattle.std.proofs.Common.{ℤ, pos, negsuc, neg_ℤ, ◌*ℤ◌}
use Rattle.std.proofs.Math.IntN.{negsuc-*ℤ-pos}
use Rattle.texel_filter.specs.Coordinate.{unit, rounded_down, from_first_edge}

-- whole units lose nothing, below 0 either
down_below : (m : ℕ) → rounded_down (neg_ℤ (pos (unit * m))) unit ≡ neg_ℤ (pos m)
down_below zero = refl
down_below (suc k) =
    let e : unit * suc k ≡ suc (unit * k + 65535) = omega arith in
    let whole : (unit * k + 65535) / unit ≡ k = omega arith in
    ap (λ x. rounded_down (neg_ℤ (pos x)) unit) e ∙ ap negsuc whole

-- such a coordinate lies s times n from the edge of the first of n texels
pub coarse_edge : (s : ℤ) (n : ℕ) → from_first_edge (s *ℤ pos unit) n ≡ s *ℤ pos n
coarse_edge (pos a) n =
    let e : a * unit * n ≡ unit * (a * n) = grind arith in
    let whole : unit * (a * n) / unit ≡ a * n = omega arith in
    ap (λ x. rounded_down (pos x) unit) e ∙ ap pos whole
coarse_edge (negsuc a) n =
    let e : suc a * unit ≡ suc (unit * a + 65535) = omega arith in
    let f : suc (unit * a + 65535) * n ≡ unit * (suc a * n) = grind arith in
    ap (λ x. rounded_down (neg_ℤ (pos x) *ℤ pos n) unit) e
    ∙ ap (λ z. rounded_down z unit) (negsuc-*ℤ-pos (unit * a + 65535) n)
    ∙ ap (λ x. rounded_down (neg_ℤ (pos x)) unit) f ∙ down_below (suc a * n)
