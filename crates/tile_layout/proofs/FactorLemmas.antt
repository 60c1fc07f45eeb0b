-- A product and a shift in place of a division.
use Rattle.std.proofs.Common.{◌≡◌, ℕ, ◌+◌, ◌*◌, ◌/◌, ◌%◌, ◌^◌, ◌<◌, ◌≤◌, arith}
use Rattle.std.proofs.Math.Nat.{mul-le-mul_left, mul-le-mul_right, lt_of_mul-lt-mul_left}
use Rattle.std.proofs.lemmas.Nat.{mod_below, div-add-mod', div_below, le-div}
use Rattle.tile_layout.specs.CutSide.{factor_of}

-- x / d equals x * (n / d + 1) / n, if x * d is below n
module _ (x d n : ℕ) (some : 1 ≤ d) (low : x * d < n) where
  -- 1 / d with the point at n, rounded up
  abbrev factor : ℕ
  factor = n / d + 1

  above : n < d * factor
  above = omega (arith, div-add-mod' n d, mod_below n d some)

  below : d * factor ≤ n + d
  below = omega (arith, div-add-mod' n d)

  at_least : x / d * n ≤ x * factor
  at_least =
      let first : x / d * n ≤ x / d * (d * factor) = mul-le-mul_left (x / d) (omega (arith, above)) in
      let second : x / d * d * factor ≤ x * factor =
      mul-le-mul_right factor (omega (arith, div-add-mod' x d)) in
      omega (arith, first, second)

  less : d * (x * factor) < d * ((x / d + 1) * n)
  less =
      let first : x * (d * factor) ≤ x * (n + d) = mul-le-mul_left x below in
      let next : x + 1 ≤ d * (x / d + 1) = omega (arith, div-add-mod' x d, mod_below x d some) in
      let second : (x + 1) * n ≤ d * (x / d + 1) * n = mul-le-mul_right n next in
      omega (arith, first, second, low)

  at_most : x * factor / n < x / d + 1
  at_most =
      div_below (x * factor) n (x / d + 1) (omega (arith, low))
      (lt_of_mul-lt-mul_left d less)

  pub same_quotient : x * factor / n ≡ x / d
  same_quotient =
      omega (arith, at_most, le-div (x / d) (x * factor) n (omega (arith, low)) at_least)

-- multiplying by a side's factor gives the exact quotient
pub divides_exactly : (place cell : ℕ) → 1 ≤ cell → cell ≤ 131072 → place < 131072
    → place * factor_of cell / 2 ^ 40 ≡ place / cell
divides_exactly place cell some high below =
    let low : place * cell ≤ 131072 * cell = mul-le-mul_right cell (omega arith) in
    same_quotient place cell (2 ^ 40) some (omega (arith, low))
