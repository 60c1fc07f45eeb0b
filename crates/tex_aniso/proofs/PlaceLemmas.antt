-- From the parts of an axis to where they lie.
use Rattle.std.proofs.Common.{◌≡◌, ℕ, ◌+◌, ◌*◌, ◌/◌, ◌^◌, ◌<◌, ◌≤◌, refl, ◌∙◌, arith}
use Rattle.std.proofs.Common.{w32, w64, to_z, of_z, FitsSigned}
use Rattle.std.proofs.Common.{ℤ, pos, negsuc, neg_ℤ, ◌-ℤ◌, ◌*ℤ◌, ◌≤ℤ◌, unsigned_abs}
use Rattle.std.proofs.Math.Nat.{zero-mul}
use Rattle.std.proofs.lemmas.Int.{ints, unsigned_abs-mul, to_z-of_z, fits_signed_from_abs}
use Rattle.std.proofs.lemmas.Nat.{mul-le, div_below}
use Rattle.std.specs.Int.{int_div_euclid}
use Rattle.texel_filter.specs.Coordinate.{rounded_down}
use Rattle.texel_filter.specs.Deriv.{IsDerivNumber}
use Rattle.tex_aniso.specs.Footprint.{max_probes}
use Rattle.tex_aniso.specs.Probe.{offset_of}

-- the quotient that leaves no negative rest is the one that is rounded down
pub euclid_down : (z : ℤ) (d : ℕ) → int_div_euclid z (pos d) ≡ rounded_down z d
euclid_down (pos a) d = refl
euclid_down (negsuc a) d = refl

-- a number of n times 2 ^ 30 at most, divided by twice n
pub down_small : (z : ℤ) (n : ℕ) → 0 < n → unsigned_abs z ≤ n * 2 ^ 30
    → (neg_ℤ (pos (2 ^ 29)) ≤ℤ rounded_down z (2 * n)) × (rounded_down z (2 * n) ≤ℤ pos (2 ^ 29))
down_small (pos a) n some small =
    let below : a / (2 * n) < 2 ^ 29 + 1 =
    div_below a (2 * n) (2 ^ 29 + 1) (omega arith) (omega arith) in
    (omega (arith, ints), omega (arith, ints))
down_small (negsuc a) n some small =
    let below : a / (2 * n) < 2 ^ 29 = div_below a (2 * n) (2 ^ 29) (omega arith) (omega arith) in
    (omega (arith, ints), omega (arith, ints))

-- how large the numbers are
difference_small : (z : ℤ) (a n : ℕ) → a < 2 * n → z ≡ pos a -ℤ pos n → unsigned_abs z ≤ n
difference_small (pos b) a n below is = omega (arith, ints)
difference_small (negsuc b) a n below is = omega (arith, ints)

pub number_small : (d : ℤ) → IsDerivNumber d → unsigned_abs d ≤ 2 ^ 30
number_small (pos a) is = omega (arith, ints, is.high)
number_small (negsuc a) is = omega (arith, ints, is.low)

pub product_small : (n j : ℕ) (d : ℤ) → j < n → IsDerivNumber d
    → unsigned_abs ((pos (2 * j + 1) -ℤ pos n) *ℤ d) ≤ n * 2 ^ 30
product_small n j d below is =
    rw unsigned_abs-mul
    (mul-le _ _ n (2 ^ 30)
    (difference_small (pos (2 * j + 1) -ℤ pos n) (2 * j + 1) n (omega arith) refl)
    (number_small d is))

-- how far a probe lies from the middle
pub offset_small : (n j : ℕ) (d : ℤ) → j < n → IsDerivNumber d
    → (neg_ℤ (pos (2 ^ 29)) ≤ℤ offset_of n j d) × (offset_of n j d ≤ℤ pos (2 ^ 29))
offset_small n j d below is =
    down_small ((pos (2 * j + 1) -ℤ pos n) *ℤ d) n (omega arith) (product_small n j d below is)

-- the quotient that the code computes, of the numbers as it reads them
quotient_is : (n j : ℕ) (d a b e f q : ℤ) → j < n → n ≤ max_probes → IsDerivNumber d
    → a ≡ pos (2 * j + 1) → b ≡ pos n → e ≡ to_z w32 (of_z w32 d) → f ≡ pos (2 * n)
    → q ≡ int_div_euclid
    (to_z w64 (of_z w64
    (to_z w64 (of_z w64 (to_z w64 (of_z w64 a) -ℤ to_z w64 (of_z w64 b)))
    *ℤ to_z w64 (of_z w64 e))))
    (to_z w64 (of_z w64 f))
    → q ≡ offset_of n j d
quotient_is n j d a b e f q below few is odd count axis double divided =
    let steps : to_z w64 (of_z w64 (to_z w64 (of_z w64 a) -ℤ to_z w64 (of_z w64 b)))
    ≡ pos (2 * j + 1) -ℤ pos n = omega (arith, ints) in
    let along : to_z w64 (of_z w64 e) ≡ d = omega (arith, ints, is.low, is.high) in
    let parts : to_z w64 (of_z w64 f) ≡ pos (2 * n) = omega (arith, ints) in
    let small = product_small n j d below is in
    let fits : FitsSigned w64 ((pos (2 * j + 1) -ℤ pos n) *ℤ d) =
    fits_signed_from_abs w64 _ (omega (arith, small)) in
    let whole = to_z-of_z w64 _ fits in
    divided
    ∙ rw (steps, along, parts, whole)
    (euclid_down ((pos (2 * j + 1) -ℤ pos n) *ℤ d) (2 * n))

-- that quotient as the code gives it back
pub record IsKept (q offset : ℤ) : Type 0 where
  pub fits : FitsSigned w32 (to_z w64 (of_z w64 q))
  pub value : to_z w32 (of_z w32 (to_z w64 (of_z w64 q))) ≡ offset
  pub low : neg_ℤ (pos (2 ^ 29)) ≤ℤ to_z w32 (of_z w32 (to_z w64 (of_z w64 q)))
  pub high : to_z w32 (of_z w32 (to_z w64 (of_z w64 q))) ≤ℤ pos (2 ^ 29)

pub kept : (n j : ℕ) (d a b e f q : ℤ) → j < n → n ≤ max_probes → IsDerivNumber d
    → a ≡ pos (2 * j + 1) → b ≡ pos n → e ≡ to_z w32 (of_z w32 d) → f ≡ pos (2 * n)
    → q ≡ int_div_euclid
    (to_z w64 (of_z w64
    (to_z w64 (of_z w64 (to_z w64 (of_z w64 a) -ℤ to_z w64 (of_z w64 b)))
    *ℤ to_z w64 (of_z w64 e))))
    (to_z w64 (of_z w64 f))
    → IsKept q (offset_of n j d)
kept n j d a b e f q below few is odd count axis double divided =
    let offset = quotient_is n j d a b e f q below few is odd count axis double divided in
    let small = offset_small n j d below is in
    let low : neg_ℤ (pos (2 ^ 29)) ≤ℤ q = rw offset small.0 in
    let high : q ≤ℤ pos (2 ^ 29) = rw offset small.1 in
    let same : to_z w32 (of_z w32 (to_z w64 (of_z w64 q))) ≡ q =
    omega (arith, ints, low, high) in
    record {
      fits = omega (arith, ints, low, high);
      value = same ∙ offset;
      low = rw same low;
      high = rw same high;
    }

-- a single probe lies in the middle
pub offset_alone : (d : ℤ) → offset_of 1 0 d ≡ pos 0
offset_alone (pos a) = rw zero-mul refl
offset_alone (negsuc a) = rw zero-mul refl
