-- From a length to its LOD.
use Rattle.std.proofs.Common.{◌≡◌, ℕ, zero, suc, ◌+◌, ◌-◌, ◌*◌, ◌/◌, ◌%◌, ◌^◌, ◌<◌, ◌≤◌}
use Rattle.std.proofs.Common.{inl, inr, sym, ap, arith}
use Rattle.std.proofs.Math.Nat.{pow-suc}
use Rattle.std.proofs.lemmas.Bool.{le-leb, lt-leb, cases_lt}
use Rattle.std.proofs.lemmas.Nat.{div-add-mod', div-mul-add, le-div, mod_below, pow_pos, pow_below}
use Rattle.texel_filter.specs.Coordinate.{unit}
use Rattle.tex_aniso.specs.Footprint.{greatest_level, lod_of}

-- a number is below its power
pub below_power : (k : ℕ) → k < 2 ^ k
below_power zero = omega arith
below_power (suc k) = omega (arith, below_power k, pow-suc 2 k)

-- a power is at most a later one
pub pow_upto : (i j : ℕ) → i ≤ j → 2 ^ i ≤ 2 ^ j
pow_upto i j below =
    elim (cases_lt i j) [
      | inl less ↦ (let h = pow_below i j less in omega arith)
      | inr most ↦ (let same : i ≡ j = omega arith in rw same (omega arith))
    ]

-- the level whose texels are no longer than the length, where those of the next one are
greatest_is : (m k length : ℕ) → k ≤ m → unit * 2 ^ k ≤ length
    → length < unit * 2 ^ suc k → greatest_level m length ≡ k
unfolding greatest_level
greatest_is zero k length within low high = omega arith
greatest_is (suc m) k length within low high =
    elim (cases_lt k (suc m)) [
      | inl less ↦
          (let longer = pow_upto (suc k) (suc m) (omega arith) in
          let above : length < unit * 2 ^ suc m = omega arith in
          rw (lt-leb (unit * 2 ^ suc m) length above)
          (greatest_is m k length (omega arith) low high))
      | inr most ↦
          (let same : k ≡ suc m = omega arith in
          let reached : unit * 2 ^ suc m ≤ length = rw same at low in
          rw (le-leb (unit * 2 ^ suc m) length reached) (sym same))
    ]

-- what is left of a length above that level's texels
rest_from : (d p r length : ℕ) → r < p → (d + unit) * p + r ≡ length
    → (length - unit * p) / p ≡ d
rest_from d p r length below is =
    let e : length - unit * p ≡ d * p + r = omega arith in rw e (div-mul-add d p r below)

rest_is : (p length : ℕ) → 0 < p → unit * p ≤ length
    → (length - unit * p) / p ≡ length / p - unit
rest_is p length some low =
    let most : unit ≤ length / p = le-div unit length p some low in
    let q : length / p - unit + unit ≡ length / p = omega arith in
    rest_from (length / p - unit) p (length % p) length (mod_below length p some)
    (rw q (div-add-mod' length p))

pub lod_is : (k length : ℕ) → 2 ^ k ≤ length / unit → length / unit < 2 * 2 ^ k
    → lod_of length ≡ unit * k + (length / 2 ^ k - unit)
unfolding lod_of
lod_is k length low high =
    let parts = div-add-mod' length unit in
    let rest : length % unit < unit = mod_below length unit (omega arith) in
    let double = pow-suc 2 k in
    let reached : unit * 2 ^ k ≤ length = omega (arith, parts) in
    let above : length < unit * 2 ^ suc k = omega (arith, parts, double) in
    let within : k ≤ length = omega (arith, below_power k) in
    rw (greatest_is length k length within reached above)
    (ap (λ x. unit * k + x) (rest_is (2 ^ k) length (pow_pos k) reached))
