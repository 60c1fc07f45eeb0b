-- Numbers of binary digits, magnitudes and roots.
use Rattle.std.proofs.Common.{◌≡◌, ℕ, zero, suc, ◌+◌, ◌-◌, ◌*◌, ◌^◌, ◌<◌, ◌≤◌, inl, inr}
use Rattle.std.proofs.Common.{refl, sym, arith, ℤ, pos, negsuc, neg_ℤ, ◌≤ℤ◌, ◌<ℤ◌, to_z, of_z, w64}
use Rattle.std.proofs.Math.Nat.{pow-suc}
use Rattle.std.proofs.lemmas.Bool.{le-leb, lt-leb, cases_lt}
use Rattle.std.proofs.lemmas.Nat.{mul-le, div_below, pow_pos, pow-add}
use Rattle.std.proofs.lemmas.Int.{ints}
use Rattle.texel_filter.specs.Coordinate.{rounded_down}
use Rattle.tex_aniso.specs.Digits.{digits_upto, digits, magnitude, root_upto, root}
use Rattle.tex_aniso.proofs.LevelLemmas.{below_power, pow_upto}

-- ---- digits

upto_is : (j r m : ℕ) → r < j → 2 ^ r ≤ m → m < 2 * 2 ^ r → digits_upto j m ≡ suc r
unfolding digits_upto
upto_is zero r m within low high = omega arith
upto_is (suc j) r m within low high =
    elim (cases_lt r j) [
      | inl less ↦
          (let longer = pow_upto (suc r) j (omega arith) in
          let above : m < 2 ^ j = omega (arith, longer, pow-suc 2 r) in
          rw (lt-leb (2 ^ j) m above) (upto_is j r m less low high))
      | inr most ↦
          (let same : j ≡ r = omega arith in
          let reached : 2 ^ j ≤ m = rw same low in
          rw (le-leb (2 ^ j) m reached, same) refl)
    ]

pub digits_is : (r m : ℕ) → 2 ^ r ≤ m → m < 2 * 2 ^ r → digits m ≡ r + 1
digits_is r m low high =
    let few : r < m = omega (arith, below_power r) in
    let is = upto_is m r m few low high in
    omega (arith, is)

pub digits_none : (m : ℕ) → m ≡ 0 → digits m ≡ 0
unfolding digits_upto
digits_none m none = rw none refl

upto_few : (j k m : ℕ) → m < 2 ^ k → digits_upto j m ≤ k
unfolding digits_upto
upto_few zero k m below = omega arith
upto_few (suc j) k m below =
    elim (cases_lt m (2 ^ j)) [
      | inl less ↦ rw (lt-leb (2 ^ j) m less) (upto_few j k m below)
      | inr most ↦
          (rw (le-leb (2 ^ j) m most)
          (elim (cases_lt j k) [
            | inl fits ↦ omega arith
            | inr past ↦ (let longer = pow_upto k j past in omega (arith, longer))
          ]))
    ]

pub digits_few : (k m : ℕ) → m < 2 ^ k → digits m ≤ k
digits_few k m below = upto_few m k m below

upto_below : (j m : ℕ) → m < 2 ^ j → m < 2 ^ digits_upto j m
unfolding digits_upto
upto_below zero m below = below
upto_below (suc j) m below =
    elim (cases_lt m (2 ^ j)) [
      | inl less ↦ rw (lt-leb (2 ^ j) m less) (upto_below j m less)
      | inr most ↦ rw (le-leb (2 ^ j) m most) below
    ]

pub digits_enough : (m : ℕ) → m < 2 ^ digits m
digits_enough m = upto_below m m (below_power m)

upto_least : (j m : ℕ) → 1 ≤ m → m < 2 ^ j → 2 ^ (digits_upto j m - 1) ≤ m
unfolding digits_upto
upto_least zero m some below = absurd (omega (arith, below))
upto_least (suc j) m some below =
    elim (cases_lt m (2 ^ j)) [
      | inl less ↦ rw (lt-leb (2 ^ j) m less) (upto_least j m some less)
      | inr most ↦
          (let e : suc j - 1 ≡ j = omega arith in rw (le-leb (2 ^ j) m most, e) most)
    ]

-- a number has its first digit
pub digits_least : (k m : ℕ) → 1 ≤ m → 1 ≤ k → 2 ^ (digits m - k) ≤ m
digits_least k m some more =
    let first = upto_least m m some (below_power m) in
    let longer = pow_upto (digits m - k) (digits m - 1) (omega arith) in
    omega (arith, first, longer)

-- a number of d digits is below 2 ^ (k + (d - k))
pub digits_past : (k d m : ℕ) → m < 2 ^ d → m < 2 ^ (k + (d - k))
digits_past k d m below =
    let longer = pow_upto d (k + (d - k)) (omega arith) in omega (arith, longer)

-- ---- roots

root_upto_is : (j r m : ℕ) → r ≤ j → r * r ≤ m → m < (r + 1) * (r + 1) → root_upto j m ≡ r
unfolding root_upto
root_upto_is zero r m within low high = omega arith
root_upto_is (suc j) r m within low high =
    elim (cases_lt r (suc j)) [
      | inl less ↦
          (let longer = mul-le (r + 1) (r + 1) (suc j) (suc j) (omega arith) (omega arith) in
          let above : m < suc j * suc j = omega (arith, longer) in
          rw (lt-leb (suc j * suc j) m above) (root_upto_is j r m (omega arith) low high))
      | inr most ↦
          (let same : suc j ≡ r = omega arith in
          let reached : suc j * suc j ≤ m = rw same low in
          rw (le-leb (suc j * suc j) m reached) same)
    ]

no_longer : (r : ℕ) → r ≤ r * r
no_longer zero = omega arith
no_longer (suc r) = grind arith

pub root_is : (r m : ℕ) → r * r ≤ m → m < (r + 1) * (r + 1) → r ≡ root m
root_is r m low high =
    sym (root_upto_is m r m (omega (arith, no_longer r)) low high)

-- ---- magnitudes

pub magnitude_below : (z : ℤ) (b : ℕ) → neg_ℤ (pos b) ≤ℤ z → z <ℤ pos b → magnitude z < b
magnitude_below (pos a) b low high = omega (arith, ints)
magnitude_below (negsuc a) b low high = omega (arith, ints)

-- a number from -b to b - 1
pub record IsBetween (z : ℤ) (b : ℕ) : Type 0 where
  pub low : neg_ℤ (pos b) ≤ℤ z
  pub high : z <ℤ pos b

pub between_of : (z : ℤ) (b : ℕ) → magnitude z < b → IsBetween z b
between_of (pos a) b below = record { low = omega (arith, ints); high = omega (arith, ints) }
between_of (negsuc a) b below = record { low = omega (arith, ints); high = omega (arith, ints) }

-- a number that fits is read as it is
pub read64 : (z : ℤ) → magnitude z < 2 ^ 63 → to_z w64 (of_z w64 z) ≡ z
read64 (pos a) below = omega (arith, ints)
read64 (negsuc a) below = omega (arith, ints)

-- ---- shortened numbers

pub shortened_below : (z : ℤ) (j k : ℕ) → magnitude z < 2 ^ (j + k)
    → magnitude (rounded_down z (2 ^ k)) < 2 ^ j
shortened_below (pos a) j k below =
    let whole = rw (pow-add 2 j k) at below in div_below a (2 ^ k) (2 ^ j) (pow_pos k) whole
shortened_below (negsuc a) j k below =
    let whole = rw (pow-add 2 j k) at below in div_below a (2 ^ k) (2 ^ j) (pow_pos k) whole

-- a step as the code reads it
pub step_below : (z : ℤ) → neg_ℤ (pos (2 ^ 48)) ≤ℤ z → z ≤ℤ pos (2 ^ 48)
    → magnitude (to_z w64 (of_z w64 z)) < 2 ^ 49
step_below z low high =
    let below = magnitude_below z (2 ^ 49) (omega (arith, ints)) (omega (arith, ints)) in
    let fits : magnitude z < 2 ^ 63 = omega arith in
    rw (read64 z fits) below
