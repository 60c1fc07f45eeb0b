-- The weights of a footprint: each above 0, and together no more than 16 bits.
use Rattle.std.proofs.Common.{◌≡◌, ◌≢◌, ℕ, zero, suc, ◌+◌, ◌-◌, ◌*◌, ◌^◌, ◌<◌, ◌≤◌, ◌==◌, min}
use Rattle.std.proofs.Common.{refl, inl, inr, arith, if◌then◌else◌}
use Rattle.std.proofs.Math.Nat.{mul-div-le, mul-le-mul_left}
use Rattle.std.proofs.lemmas.Nat.{le-div, pow_pos, pow-add}
use Rattle.std.proofs.lemmas.Bool.{cases_lt, ne_eqb}
use Rattle.std.proofs.Common.{eq-eqb, Bool, true, false}
use Rattle.tex_aniso.specs.Digits.{digits}
use Rattle.tex_aniso.specs.Bell.{half_step, side_count, bell_area, bell_part, bell_whole, bell_cut}
use Rattle.tex_aniso.specs.Bell.{bell_weight, used_count}
use Rattle.tex_aniso.proofs.LevelLemmas.{pow_upto}
use Rattle.tex_aniso.proofs.DigitLemmas.{digits_past, digits_enough}
use Rattle.tex_aniso.proofs.BellLemmas.{area_upto, area_more, part_first, part_next, cut_few}

-- ---- a whole step below the bell has a weight

middle_area : (d : ℕ) → 2 ^ 44 ≤ 2 * bell_area (16384 + d) 16384
middle_area d = omega arith

step_area : (a d : ℕ)
    → bell_area (a + 32768 + d) a + 2 ^ 44 ≤ bell_area (a + 32768 + d) (a + 32768)
step_area a d = omega arith

whole_part : (reach j : ℕ) → half_step < reach → j < side_count reach → 2 ^ 44 ≤ bell_part reach j
whole_part reach zero low below =
    let e : 16384 + (reach - 16384) ≡ reach = omega arith in
    let h = rw e at (middle_area (reach - 16384)) in
    rw (← part_first reach 0 refl) h
whole_part reach (suc j) low below =
    let a = (2 * suc j - 1) * half_step in
    let end : (2 * suc j + 1) * half_step ≡ a + 32768 = omega arith in
    let within : min reach ((2 * suc j + 1) * half_step) ≡ a + 32768 = omega (arith, below) in
    let e : a + 32768 + (reach - (a + 32768)) ≡ reach = omega (arith, below) in
    let h = rw e at (step_area a (reach - (a + 32768))) in
    rw (← part_next reach (suc j) (omega arith), within) (omega (arith, h))

whole_weight : (reach j : ℕ) → half_step < reach → reach < 2 ^ 19 → j < side_count reach
    → 1 ≤ bell_weight reach j
whole_weight reach j low high below =
    let few = pow_upto (bell_cut reach) 43 (cut_few reach high) in
    let part = whole_part reach j low below in
    le-div 1 (bell_part reach j) (2 ^ bell_cut reach) (pow_pos (bell_cut reach))
    (omega (arith, few, part))

-- all that are used have one
last_weight : (reach n j : ℕ) → half_step < reach → reach < 2 ^ 19 → n ≡ side_count reach
    → j ≤ (if bell_weight reach n == 0 then n - 1 else n) → 1 ≤ bell_weight reach j
last_weight reach n j low high is within =
    elim (cases_lt 0 (bell_weight reach n)) [
      | inl some ↦
          (let more : bell_weight reach n ≢ 0 = omega arith in
          let upto = rw (ne_eqb (bell_weight reach n) 0 more) at within in
          elim (cases_lt j n) [
            | inl less ↦ whole_weight reach j low high (rw (← is) less)
            | inr past ↦ (let same : j ≡ n = omega (arith, upto, past) in rw same some)
          ])
      | inr none ↦
          (let zero_is : bell_weight reach n ≡ 0 = omega arith in
          let upto = rw (eq-eqb (bell_weight reach n) 0 zero_is) at within in
          let less : j < side_count reach = omega (arith, upto, is) in
          whole_weight reach j low high less)
    ]

-- no more are used than there are
fewer : (n : ℕ) (b : Bool) → (if b then n - 1 else n) ≤ n
fewer n true = omega arith
fewer n false = omega arith

pub used_upto : (reach : ℕ) → used_count reach ≤ side_count reach
used_upto reach = fewer (side_count reach) (bell_weight reach (side_count reach) == 0)

pub used_weight : (reach j : ℕ) → half_step < reach → reach < 2 ^ 19 → j ≤ used_count reach
    → 1 ≤ bell_weight reach j
used_weight reach j low high within =
    last_weight reach (side_count reach) j low high refl within

-- ---- the weights of one side

pub side_sum : ℕ → ℕ → ℕ
side_sum reach zero = 0
side_sum reach (suc k) = side_sum reach k + bell_weight reach (suc k)

pub sum_none : (reach : ℕ) → side_sum reach 0 ≡ 0
unfolding side_sum
sum_none reach = refl

part_sum : ℕ → ℕ → ℕ
part_sum reach zero = 0
part_sum reach (suc k) = part_sum reach k + bell_part reach (suc k)

pub sum_next : (reach k : ℕ) → side_sum reach (suc k) ≡ side_sum reach k + bell_weight reach (suc k)
unfolding side_sum
sum_next reach k = refl

-- the parts of one side reach to the end of the last one
parts_reach : (reach k : ℕ) → half_step < reach → k ≤ side_count reach
    → part_sum reach k + bell_area reach half_step
    ≡ bell_area reach (min reach ((2 * k + 1) * half_step))
unfolding part_sum
parts_reach reach zero low within =
    let e : min reach ((2 * 0 + 1) * half_step) ≡ half_step = omega arith in rw e (omega arith)
parts_reach reach (suc k) low within =
    let before = parts_reach reach k low (omega arith) in
    let next = part_next reach (suc k) (omega arith) in
    let e : min reach ((2 * k + 1) * half_step) ≡ (2 * suc k - 1) * half_step =
    omega (arith, within) in
    let less : (2 * suc k - 1) * half_step ≤ min reach ((2 * suc k + 1) * half_step) =
    omega (arith, within) in
    let most : min reach ((2 * suc k + 1) * half_step) ≤ reach = omega arith in
    let grows = area_more reach _ _ less most in
    let here = rw e at before in
    omega (arith, here, next, grows)

-- the weights of one side are no more than its parts
sums_within : (reach k : ℕ) → 2 ^ bell_cut reach * side_sum reach k ≤ part_sum reach k
unfolding side_sum part_sum
sums_within reach zero = omega arith
sums_within reach (suc k) =
    let more = mul-div-le (bell_part reach (suc k)) (2 ^ bell_cut reach) in
    omega (arith, sums_within reach k, more)

below_of : (p x b : ℕ) → p * x < b * p → x < b
below_of p x b below =
    elim (cases_lt x b) [
      | inl less ↦ less
      | inr past ↦ (let more = mul-le-mul_left p past in absurd (omega (arith, below, more)))
    ]

-- all weights together
pub weights_short : (reach n : ℕ) → half_step < reach → n ≤ side_count reach
    → 2 * side_sum reach n + bell_weight reach 0 < 2 ^ 16
weights_short reach n low within =
    let p = 2 ^ bell_cut reach in
    let reached = parts_reach reach n low within in
    let most = area_upto reach (min reach ((2 * n + 1) * half_step)) (omega arith) in
    let sides = sums_within reach n in
    let first = mul-div-le (bell_part reach 0) (2 ^ bell_cut reach) in
    let middle = part_first reach 0 refl in
    let past = digits_past 16 (digits (bell_whole reach)) (bell_whole reach)
    (digits_enough (bell_whole reach)) in
    let whole = rw (pow-add 2 16 (bell_cut reach)) at past in
    let all : 2 ^ bell_cut reach * (2 * side_sum reach n + bell_weight reach 0)
    ≤ bell_whole reach = omega (arith, reached, most, sides, first, middle) in
    below_of (2 ^ bell_cut reach) (2 * side_sum reach n + bell_weight reach 0) (2 ^ 16)
    (omega (arith, all, whole))
