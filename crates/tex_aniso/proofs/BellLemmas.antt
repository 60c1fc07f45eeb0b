-- The bell of the weights: its areas grow, and end at its reach.
use Rattle.std.proofs.Common.{◌≡◌, ℕ, zero, suc, ◌+◌, ◌-◌, ◌*◌, ◌/◌, ◌^◌, ◌<◌, ◌≤◌, min, refl, arith}
use Rattle.std.proofs.Math.Nat.{div-le_of_le-mul, mul-le-mul_left}
use Rattle.std.proofs.lemmas.Grind.{div_ceil_times}
use Rattle.std.specs.Int.{div_ceil}
use Rattle.std.proofs.lemmas.Nat.{div_below, pow_pos, pow-add, mul-le}
use Rattle.tex_aniso.specs.Digits.{digits}
use Rattle.tex_aniso.specs.Bell.{half_step, reach_of, bell_area, bell_part, bell_whole}
use Rattle.tex_aniso.specs.Bell.{bell_cut}
use Rattle.tex_aniso.proofs.DigitLemmas.{digits_few, digits_past, digits_enough}

-- ---- areas, where the reach is x + d

area_most : (x d : ℕ) → bell_area (x + d) x ≤ 2 * ((x + d) * (x + d) * (x + d))
area_most x d = omega arith

pub area_upto : (reach x : ℕ) → x ≤ reach → bell_area reach x ≤ 2 * (reach * reach * reach)
area_upto reach x within =
    let e : x + (reach - x) ≡ reach = omega arith in rw e at (area_most x (reach - x))

area_grows : (x a b : ℕ) → bell_area (x + a + b) x ≤ bell_area (x + a + b) (x + a)
area_grows x a b = omega arith

pub area_more : (reach x y : ℕ) → x ≤ y → y ≤ reach → bell_area reach x ≤ bell_area reach y
area_more reach x y less within =
    let f : x + (y - x) ≡ y = omega arith in
    let e : y + (reach - y) ≡ reach = omega arith in
    let h = rw (f, e) at (area_grows x (y - x) (reach - y)) in
    h

-- ---- parts

pub part_first : (reach j : ℕ) → j ≡ 0 → 2 * bell_area reach half_step ≡ bell_part reach j
unfolding bell_part
part_first reach j first = rw first refl

pub part_next : (reach j : ℕ) → 1 ≤ j
    → bell_area reach (min reach ((2 * j + 1) * half_step)) - bell_area reach ((2 * j - 1) * half_step)
    ≡ bell_part reach j
unfolding bell_part
part_next reach zero some = absurd (omega arith)
part_next reach (suc j) some =
    let e : 2 * suc j - 1 ≡ 2 * j + 1 = omega arith in rw e refl

-- ---- shortened areas

cube_below : (reach : ℕ) → reach < 2 ^ 19 → bell_whole reach < 2 ^ 59
cube_below reach below =
    let square = mul-le reach reach (2 ^ 19 - 1) (2 ^ 19 - 1) (omega arith) (omega arith) in
    let cube = mul-le (reach * reach) reach ((2 ^ 19 - 1) * (2 ^ 19 - 1)) (2 ^ 19 - 1) square
    (omega arith) in
    omega (arith, cube)

pub cut_few : (reach : ℕ) → reach < 2 ^ 19 → bell_cut reach ≤ 43
cut_few reach below =
    omega (arith, digits_few 59 (bell_whole reach) (cube_below reach below))

pub short_part : (reach part : ℕ) → part ≤ bell_whole reach → part / 2 ^ bell_cut reach < 2 ^ 16
short_part reach part most =
    let past = digits_past 16 (digits (bell_whole reach)) (bell_whole reach)
    (digits_enough (bell_whole reach)) in
    let whole = rw (pow-add 2 16 (bell_cut reach)) at past in
    div_below part (2 ^ bell_cut reach) (2 ^ 16) (pow_pos (bell_cut reach)) (omega (arith, whole))

-- ---- the reach

pub reach_upto : (major step arm : ℕ) → 24 * major ≤ (32 * arm + 27) * step
    → reach_of major step ≤ (2 * arm + 1) * half_step
reach_upto major step arm enough =
    div-le_of_le-mul step (omega (arith, enough))

-- a quotient that is rounded up is enough, and so is more
pub enough_of : (a b d most : ℕ) → 0 < b → d ≡ div_ceil a b → d ≤ most → a ≤ b * most
enough_of a b d most some is longer =
    let whole = (div_ceil_times a b some).0 in
    let here : a ≤ d * b = rw is whole in
    let more = mul-le-mul_left b longer in
    omega (arith, here, more)
