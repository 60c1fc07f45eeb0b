-- The levels that there are down to 1 by 1.
use Rattle.std.proofs.Common.{◌≡◌, ℕ, zero, suc, ◌+◌, ◌-◌, ◌*◌, ◌/◌, ◌^◌, ◌<◌, ◌≤◌, max, Bool}
use Rattle.std.proofs.Common.{true, false, Some, refl, sym, ap, ◌∙◌, arith, inl, inr, lit≤}
use Rattle.std.proofs.Common.{add-zero, zero-add}
use Rattle.std.specs.Prelude.{find, ◌==◌, ◌&&◌}
use Rattle.std.specs.List.{range_with_len}
use Rattle.std.specs.Option.{option_map_or}
use Rattle.std.proofs.Math.Nat.{pow-suc, pow-le-pow_right}
use Rattle.std.proofs.lemmas.Nat.{pow_pos, div_below, le-div}
use Rattle.std.proofs.lemmas.Bool.{cases_lt, cases_Bool, eq-eqb, ne_eqb, and_from, and_left}
use Rattle.std.proofs.lemmas.Bool.{and_right}
use Rattle.tiff_format.specs.Limits.{max_side}
use Rattle.tiff_format.specs.Level.{max_levels}
use Rattle.tile_layout.specs.Kept.{Kept, stored_count, level_in}
use Rattle.tile_layout.specs.Level.{width_in, height_in, levels_down}
use Rattle.tile_layout.proofs.Halving.{side_by}

-- a number is found below the end of a range
find_within : (test : ℕ → Bool) (a n : ℕ)
    → option_map_or suc (find test (range_with_len a n)) 0 ≤ a + n
find_within test a zero = omega arith
find_within test a (suc n) = elim (cases_Bool (test a)) [
  | inl passes ↦ rw passes (omega arith)
  | inr fails ↦ rw fails (omega (arith, find_within test (a + 1) n))
]

-- the first number that passes a test is found
find_first : (test : ℕ → Bool) (a n k : ℕ) → k < n
    → ((j : ℕ) → j < k → test (a + j) ≡ false) → test (a + k) ≡ true
    → find test (range_with_len a n) ≡ Some (a + k)
find_first test a zero k lt before here = absurd (omega arith)
find_first test a (suc n) zero lt before here =
    let first : a + 0 ≡ a = omega arith in
    let passes : test a ≡ true = rw first at here in rw (passes, first) refl
find_first test a (suc n) (suc k) lt before here =
    let first : test a ≡ false = rw add-zero at (before 0 (omega arith)) in
    let one : (j : ℕ) → a + 1 + j ≡ a + suc j = λ j. omega arith in
    rw first (find_first test (a + 1) n k (omega arith)
    (λ j below. ap test (one j) ∙ before (suc j) (omega arith)) (ap test (one k) ∙ here)
    ∙ ap (λ v. Some v) (one k))

pub levels_down_few : (file : Kept) → levels_down file ≤ max_levels
unfolding levels_down
levels_down_few file =
    find_within (λ l. (width_in file l == 1) && (height_in file l == 1)) 0 max_levels

-- a side is 1 from here on, and not before
side_single : (side k : ℕ) → side < 2 * 2 ^ k → max 1 (side / 2 ^ k) ≡ 1
side_single side k lt = omega (arith, div_below side (2 ^ k) 2 (pow_pos k) lt)

side_long : (side k e : ℕ) → k < e → 2 ^ e ≤ side → max 1 (side / 2 ^ k) ≡ 1 → ⊥
side_long side k e lt le is =
    let more : 2 ^ suc k ≤ 2 ^ e = pow-le-pow_right (lit≤ tt) lt in
    let two : 2 * 2 ^ k ≤ side = omega (arith, pow-suc 2 k) in
    omega (arith, le-div 2 side (2 ^ k) (pow_pos k) two)

pub few_halvings : (side e : ℕ) → side ≤ max_side → 2 ^ e ≤ side → e < max_levels
few_halvings side e few le = elim (cases_lt e max_levels) [
  | inl lt ↦ lt
  | inr ge ↦
      let more : 2 ^ max_levels ≤ 2 ^ e = pow-le-pow_right (lit≤ tt) ge in
      absurd (omega (arith, more))
]

-- before it one of the two sides is longer
side_before : (width height : ℕ → ℕ) (w h e : ℕ) → ((l : ℕ) → width l ≡ max 1 (w / 2 ^ l))
    → ((l : ℕ) → height l ≡ max 1 (h / 2 ^ l)) → 2 ^ e ≤ max w h → (j : ℕ) → j < e
    → ((width j == 1) && (height j == 1)) ≡ false
side_before width height w h e wide high le j below = elim (cases_lt w (2 ^ e)) [
  | inl narrow ↦ and_right (width j == 1) (height j == 1)
      (ne_eqb (height j) 1 (λ one. side_long h j e below (omega arith) (sym (high j) ∙ one)))
  | inr broad ↦ and_left (width j == 1) (height j == 1)
      (ne_eqb (width j) 1 (λ one. side_long w j e below broad (sym (wide j) ∙ one)))
]

-- the first of both sides 1 is found there
single_found : (width height : ℕ → ℕ) (w h e : ℕ) → ((l : ℕ) → width l ≡ max 1 (w / 2 ^ l))
    → ((l : ℕ) → height l ≡ max 1 (h / 2 ^ l)) → e < max_levels → 2 ^ e ≤ max w h
    → max w h < 2 * 2 ^ e
    → find (λ l. (width l == 1) && (height l == 1)) (range_with_len 0 max_levels) ≡ Some e
single_found width height w h e wide high few le lt =
    let test : ℕ → Bool = λ l. (width l == 1) && (height l == 1) in
    let here : test e ≡ true =
    and_from (width e == 1) (height e == 1)
    (eq-eqb (width e) 1 (wide e ∙ side_single w e (omega arith)))
    (eq-eqb (height e) 1 (high e ∙ side_single h e (omega arith))) in
    find_first test 0 max_levels e few
    (λ j lt. ap test (zero-add j) ∙ side_before width height w h e wide high le j lt)
    (ap test (zero-add e) ∙ here) ∙ ap (λ v. Some v) (zero-add e)

-- the levels of a file that stores one: the longer of its sides is halved e times until it is 1
module _ (file : Kept) (e : ℕ) (one : stored_count file ≡ 1) where
  abbrev width : ℕ
  width = (level_in file 0).shape.width

  abbrev height : ℕ
  height = (level_in file 0).shape.height

  pub levels_down_is : 1 ≤ width → 1 ≤ height → e < max_levels → 2 ^ e ≤ max width height
      → max width height < 2 * 2 ^ e → levels_down file ≡ e + 1
  unfolding levels_down
  levels_down_is w h few le lt =
      let same = λ (l : ℕ). (let e : l - 0 ≡ l = omega arith in e) in
      let found = single_found (width_in file) (height_in file) width height e
      (λ l. rw (same l) at
      (side_by (λ shape. shape.width) file l 0 (omega arith) (omega arith) w))
      (λ l. rw (same l) at
      (side_by (λ shape. shape.height) file l 0 (omega arith) (omega arith) h)) few le lt in
      rw found (omega arith)
