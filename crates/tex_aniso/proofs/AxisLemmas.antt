-- From the shape of a footprint to the direction of its longer axis.
use Rattle.std.proofs.Common.{◌≡◌, ℕ, ◌+◌, ◌-◌, ◌*◌, ◌^◌, ◌<◌, ◌≤◌, max, inl, inr}
use Rattle.std.proofs.Common.{refl, arith, ℤ, pos, negsuc, ◌+ℤ◌, ◌-ℤ◌, ◌*ℤ◌}
use Rattle.std.proofs.Common.{w64, to_z, of_z, unsigned_abs, FitsSigned}
use Rattle.std.proofs.lemmas.Int.{ints, unsigned_abs-mul, to_z-of_z, fits_signed_from_abs}
use Rattle.std.proofs.lemmas.Nat.{mul-le, div_below, le-div, pow_pos, pow-add}
use Rattle.std.proofs.lemmas.Bool.{cases_lt}
use Rattle.std.specs.Int.{w128}
use Rattle.tex_aniso.specs.Line.{line_place}
use Rattle.texel_filter.specs.Coordinate.{rounded_down}
use Rattle.tex_aniso.specs.declared.shape.Shape.{Shape}
use Rattle.tex_aniso.specs.Axis.{axis_by, long_direction}
use Rattle.std.proofs.Math.Nat.{div-le_of_le-mul, mul-le-mul_left}
use Rattle.tex_aniso.specs.Shape.{IsShort}
use Rattle.tex_aniso.specs.ShapeSteps.{IsUpTo}

-- ---- how far numbers are from 0

pub short_abs : (z : ℤ) → IsShort z → unsigned_abs z ≤ 2 ^ 30
short_abs (pos a) is = omega (arith, ints, is.high)
short_abs (negsuc a) is = omega (arith, ints, is.low)

pub abs_upto : (z : ℤ) (b : ℕ) → unsigned_abs z ≤ b → IsUpTo z b
abs_upto (pos a) b most = record { low = omega (arith, ints); high = omega (arith, ints) }
abs_upto (negsuc a) b most = record { low = omega (arith, ints); high = omega (arith, ints) }

pub read_abs : (z : ℤ) → unsigned_abs z < 2 ^ 63 → to_z w64 (of_z w64 z) ≡ z
read_abs z below = to_z-of_z w64 z (fits_signed_from_abs w64 z (omega (arith, below)))

-- ---- products

product_abs : (x y : ℤ) → IsShort x → IsShort y → unsigned_abs (x *ℤ y) ≤ 2 ^ 60
product_abs x y a b =
    rw unsigned_abs-mul (mul-le _ _ (2 ^ 30) (2 ^ 30) (short_abs x a) (short_abs y b))

pub product_upto : (x y : ℤ) → IsShort x → IsShort y → IsUpTo (x *ℤ y) (2 ^ 60)
product_upto x y a b = abs_upto (x *ℤ y) (2 ^ 60) (product_abs x y a b)

pub product_read : (x y : ℤ) → IsShort x → IsShort y → to_z w64 (of_z w64 (x *ℤ y)) ≡ x *ℤ y
product_read x y a b = read_abs (x *ℤ y) (omega (arith, product_abs x y a b))

-- ---- shortened vectors

pub shortened_upto : (z : ℤ) (j k : ℕ) → unsigned_abs z < 2 ^ (j + k)
    → unsigned_abs (rounded_down z (2 ^ k)) ≤ 2 ^ j
shortened_upto (pos a) j k below =
    let whole = rw (pow-add 2 j k) at below in
    let h = div_below a (2 ^ k) (2 ^ j) (pow_pos k) whole in
    omega (arith, h)
shortened_upto (negsuc a) j k below =
    let whole = rw (pow-add 2 j k) at below in
    let h = div_below a (2 ^ k) (2 ^ j) (pow_pos k) (omega (arith, whole)) in
    omega (arith, h)

pub shortened_some : (z : ℤ) (k : ℕ) → 2 ^ k ≤ unsigned_abs z
    → 1 ≤ unsigned_abs (rounded_down z (2 ^ k))
shortened_some (pos a) k most = le-div 1 a (2 ^ k) (pow_pos k) (omega (arith, most))
shortened_some (negsuc a) k most = omega arith

pub both_some : (x y : ℤ) (k : ℕ) → 2 ^ k ≤ max (unsigned_abs x) (unsigned_abs y)
    → 1 ≤ max (unsigned_abs (rounded_down x (2 ^ k))) (unsigned_abs (rounded_down y (2 ^ k)))
both_some x y k most =
    elim (cases_lt (unsigned_abs x) (unsigned_abs y)) [
      | inl less ↦
          (let h = shortened_some y k (omega (arith, most, less)) in omega (arith, h))
      | inr other ↦
          (let h = shortened_some x k (omega (arith, most, other)) in omega (arith, h))
    ]

pub short_of : (z : ℤ) → unsigned_abs z ≤ 2 ^ 29 → IsShort z
short_of z most =
    let upto = abs_upto z (2 ^ 29) most in
    record { low = omega (arith, ints, upto.low); high = omega (arith, ints, upto.high) }

-- ---- the long vector

pub long_is : (shape : Shape) (ef og eg fo c d : ℤ) → ef ≡ shape.e *ℤ shape.f
    → og ≡ shape.o *ℤ shape.g → eg ≡ shape.e *ℤ shape.g → fo ≡ shape.f *ℤ shape.o
    → c ≡ ef -ℤ og → d ≡ eg +ℤ fo → axis_by c d (shape.q * shape.r) ≡ long_direction shape
long_is shape ef og eg fo c d is_ef is_og is_eg is_fo is_c is_d =
    rw (is_c, is_d, is_ef, is_og, is_eg, is_fo) refl

-- ---- steps along it

down_upto : (z : ℤ) (b d : ℕ) → 0 < d → unsigned_abs z ≤ b * d
    → unsigned_abs (rounded_down z d) ≤ b
down_upto (pos a) b d some most = div-le_of_le-mul d (omega (arith, most))
down_upto (negsuc a) b d some most =
    let h = div_below a d b some (omega (arith, most)) in omega (arith, h)

-- how many texels a step goes along a part of the vector
pub record IsAlong (step : ℕ) (part : ℤ) (long : ℕ) (z : ℤ) : Type 0 where
  pub value : z ≡ rounded_down (pos step *ℤ part) long
  pub high : unsigned_abs z ≤ step

pub along_of : (step : ℕ) (part : ℤ) (long : ℕ) (z : ℤ) → step < 2 ^ 33 → IsShort part → 1 ≤ long
    → unsigned_abs part ≤ long
    → z ≡ rounded_down (to_z w64 (of_z w64 (to_z w64 step *ℤ to_z w64 (of_z w64 part)))) long
    → IsAlong step part long z
along_of step part long z few short some within is =
    let whole : to_z w64 step ≡ pos step = omega (arith, ints) in
    let read : to_z w64 (of_z w64 part) ≡ part =
    read_abs part (omega (arith, short_abs part short)) in
    let product : unsigned_abs (pos step *ℤ part) ≡ step * unsigned_abs part =
    unsigned_abs-mul (pos step) part in
    let most = mul-le step (unsigned_abs part) (2 ^ 33 - 1) (2 ^ 30) (omega arith)
    (short_abs part short) in
    let kept = read_abs (pos step *ℤ part) (omega (arith, product, most)) in
    let value = rw (whole, read, kept) at is in
    let upto : unsigned_abs (pos step *ℤ part) ≤ step * long =
    rw product (mul-le-mul_left step within) in
    record {
      value = value;
      high = rw value (down_upto (pos step *ℤ part) step long some upto);
    }

pub unit_read : (z : ℤ) (step : ℕ) → step < 2 ^ 33 → unsigned_abs z ≤ step
    → to_z w64 (of_z w64 (pos 65536 *ℤ to_z w64 (of_z w64 z))) ≡ pos 65536 *ℤ z
unit_read z step few most =
    let read = read_abs z (omega (arith, few, most)) in
    let product : unsigned_abs (pos 65536 *ℤ z) ≡ 65536 * unsigned_abs z =
    unsigned_abs-mul (pos 65536) z in
    let below : unsigned_abs (pos 65536 *ℤ z) < 2 ^ 63 = omega (arith, product, few, most) in
    rw read (read_abs (pos 65536 *ℤ z) below)

pub unit_fits : (z : ℤ) (step : ℕ) → step < 2 ^ 33 → unsigned_abs z ≤ step
    → FitsSigned w64 (pos 65536 *ℤ to_z w64 (of_z w64 z))
unit_fits z step few most =
    let read = read_abs z (omega (arith, few, most)) in
    let product : unsigned_abs (pos 65536 *ℤ z) ≡ 65536 * unsigned_abs z =
    unsigned_abs-mul (pos 65536) z in
    rw read (fits_signed_from_abs w64 _ (omega (arith, product, few, most)))

-- ---- a place of a line, computed in 128 bits

upto_abs : (z : ℤ) (b : ℕ) → IsUpTo z b → unsigned_abs z ≤ b
upto_abs (pos a) b is = omega (arith, ints, is.high)
upto_abs (negsuc a) b is = omega (arith, ints, is.low)

read_wide : (z : ℤ) → unsigned_abs z < 2 ^ 127 → to_z w128 (of_z w128 z) ≡ z
read_wide z below = to_z-of_z w128 z (fits_signed_from_abs w128 z (omega (arith, below)))

abs64 : (z : ℤ) → FitsSigned w64 z → unsigned_abs z ≤ 2 ^ 63
abs64 (pos a) fits = omega (arith, ints, fits)
abs64 (negsuc a) fits = omega (arith, ints, fits)

pub wide_read : (first step : ℤ) (j : ℕ) → FitsSigned w64 first → FitsSigned w64 step → j ≤ 31
    → to_z w128 (of_z w128 (to_z w128 (of_z w128 first) +ℤ to_z w128 (of_z w128
    (to_z w128 (of_z w128 (pos j)) *ℤ to_z w128 (of_z w128 step)))))
    ≡ line_place first step j
wide_read first step j far long few =
    let a = abs64 first far in
    let b = abs64 step long in
    let product : unsigned_abs (pos j *ℤ step) ≡ j * unsigned_abs step =
    unsigned_abs-mul (pos j) step in
    let most = mul-le j (unsigned_abs step) 31 (2 ^ 63) few b in
    let first_upto = abs_upto first (2 ^ 63) a in
    let along_upto = abs_upto (pos j *ℤ step) (31 * 2 ^ 63) (omega (arith, product, most)) in
    let upto : IsUpTo (first +ℤ pos j *ℤ step) (2 ^ 68) = record {
      low = omega (arith, ints, first_upto.low, along_upto.low);
      high = omega (arith, ints, first_upto.high, along_upto.high);
    } in
    rw (
      read_wide first (omega (arith, a)),
      read_wide (pos j) (omega (arith, few)),
      read_wide step (omega (arith, b)),
      read_wide (pos j *ℤ step) (omega (arith, product, most)),
      read_wide (first +ℤ pos j *ℤ step) (omega (arith, upto_abs _ _ upto)),
    ) refl
