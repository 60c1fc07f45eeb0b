-- Samples of one plane, written to a part of the samples of all.
use Rattle.std.proofs.Common.{◌≡◌, ◌≢◌, ℕ, zero, suc, ◌+◌, ◌-◌, ◌*◌, ◌/◌, ◌%◌, ◌<◌, ◌≤◌, eqb, List}
use Rattle.std.proofs.Common.{length, get_or, take, drop, ap, sym, ◌∙◌, arith, refl, inl, inr}
use Rattle.std.proofs.lemmas.Bool.{cases_lt, cases_eq}
use Rattle.std.proofs.lemmas.List.{get_or_append_left, get_or-append_right, get_or-take, get_or-drop}
use Rattle.std.proofs.lemmas.List.{length-take-le, length-drop}
use Rattle.std.proofs.lemmas.Nat.{div-mul-add, mod-mul-add, mul-add-lt, div-add-mod'}
use Rattle.tile_layout.specs.declared.texel_format.TexelFormat.{TexelFormat}
use Rattle.unpack.specs.Plane.{plane_sample}
use Rattle.unpack.specs.Sample.{is_white}
use Rattle.piece_samples.specs.Unpacked.{is_wide, unpacked}
use borrow.Rule.Slice.PartMut.{mid_of, put_mid}

pub length_part : (a w : ℕ) (xs : List ℕ) → a + w ≤ length xs → length (mid_of a w xs) ≡ w
length_part a w xs room = length-take-le w (drop a xs) (omega (arith, length-drop a xs, room))

-- ---- elements of a list of which w were written, from index a on

module _ (a w : ℕ) (xs ys : List ℕ) (from : a ≤ length xs) (long : length ys ≡ w) where
  pub before_part : (i : ℕ) → i < a → get_or (put_mid a w xs ys) i 0 ≡ get_or xs i 0
  before_part i lt =
      let head : length (take a xs) ≡ a = length-take-le a xs from in
      get_or_append_left (take a xs) _ 0 i (omega (arith, head, lt)) ∙ get_or-take a xs i 0 lt

  pub in_part : (k : ℕ) → k < w → get_or (put_mid a w xs ys) (a + k) 0 ≡ get_or ys k 0
  in_part k lt =
      let head : length (take a xs) ≡ a = length-take-le a xs from in
      let at : a + k - a ≡ k = omega arith in
      get_or-append_right (take a xs) _ a (a + k) 0 head (omega arith)
      ∙ get_or_append_left ys _ 0 (a + k - a) (omega (arith, long, lt))
      ∙ ap (λ (n : ℕ). get_or ys n 0) at

  pub behind_part : (i : ℕ) → a + w ≤ i → get_or (put_mid a w xs ys) i 0 ≡ get_or xs i 0
  behind_part i le =
      let head : length (take a xs) ≡ a = length-take-le a xs from in
      let at : a + (w + (i - a - w)) ≡ i = omega arith in
      get_or-append_right (take a xs) _ a i 0 head (omega arith)
      ∙ get_or-append_right ys _ w (i - a) 0 long (omega arith)
      ∙ get_or-drop w (drop a xs) (i - a - w) 0 ∙ get_or-drop a xs (w + (i - a - w)) 0
      ∙ ap (λ (n : ℕ). get_or xs n 0) at

  pub of_part : (k : ℕ) → k < w → get_or (mid_of a w xs) k 0 ≡ get_or xs (a + k) 0
  of_part k lt = get_or-take w (drop a xs) k 0 lt ∙ get_or-drop a xs k 0

-- ---- places

-- a place has one texel and one plane
pub same_place : (k n step c d : ℕ) → c < step → d < step → k * step + c ≡ n * step + d
    → (k ≡ n) × (c ≡ d)
same_place k n step c d c-low d-low is = (
  sym (div-mul-add k step c c-low) ∙ ap (λ (p : ℕ). p / step) is ∙ div-mul-add n step d d-low,
  sym (mod-mul-add k step c c-low) ∙ ap (λ (p : ℕ). p % step) is ∙ mod-mul-add n step d d-low,
)

-- if there is memory for one more sample, its place exists
pub place_within : (done step first more steps room : ℕ) → first < step → more ≡ done + 1
    → steps ≡ step → more * steps ≤ room → done * step + first < room
place_within done step first more steps room own is same fits =
    let all : (done + 1) * step ≤ room = rw (is, same) at fits in
    omega (arith, all, own)

-- ---- samples of a plane, `count` of them, every `step` places

module _ (step first a count w : ℕ) (xs ys : List ℕ) (own : first < step)
    (wide : w ≡ count * step) (room : a + w ≤ length xs) (long : length ys ≡ w)
    (kept : (k : ℕ) → k % step ≢ first → get_or ys k 0 ≡ get_or (mid_of a w xs) k 0) where
  abbrev from : a ≤ length xs
  from = omega (arith, room)

  -- a place that is not the plane's stays
  pub other_stays : (i : ℕ) → ((k : ℕ) → i ≡ a + k → k % step ≢ first)
      → get_or (put_mid a w xs ys) i 0 ≡ get_or xs i 0
  other_stays i other = elim (cases_lt i a) [
    | inl lt ↦ before_part a w xs ys from long i lt
    | inr le ↦ elim (cases_lt (i - a) w) [
      | inl inside ↦
          let k = i - a in
          let at : i ≡ a + k = omega (arith, le) in
          ap (λ (n : ℕ). get_or (put_mid a w xs ys) n 0) at
          ∙ in_part a w xs ys from long k inside ∙ kept k (other k at)
          ∙ of_part a w xs ys from long k inside ∙ ap (λ (n : ℕ). get_or xs n 0) (sym at)
      | inr past ↦ behind_part a w xs ys from long i (omega (arith, le, past))
    ]
  ]

  -- a written sample is at its place
  pub sample_stands : (k : ℕ) → k < count
      → get_or (put_mid a w xs ys) (a + (k * step + first)) 0 ≡ get_or ys (k * step + first) 0
  sample_stands k lt =
      in_part a w xs ys from long (k * step + first)
      (omega (arith, wide, mul-add-lt k step first count lt own))

  -- none is above the greatest
  pub all_stay_low : (most : ℕ) → ((i : ℕ) → get_or xs i 0 ≤ most)
      → ((k : ℕ) → k * step + first < length ys → get_or ys (k * step + first) 0 ≤ most)
      → (i : ℕ) → get_or (put_mid a w xs ys) i 0 ≤ most
  all_stay_low most old new i = elim (cases_lt i a) [
    | inl lt ↦ rw (before_part a w xs ys from long i lt) (old i)
    | inr le ↦ elim (cases_lt (i - a) w) [
      | inl inside ↦
          let k = i - a in
          let at : i ≡ a + k = omega (arith, le) in
          elim (cases_eq (k % step) first) [
            | inl here ↦
                let place : k ≡ k / step * step + first =
                sym (div-add-mod' k step) ∙ ap (λ (n : ℕ). k / step * step + n) here in
                let low = new (k / step) (omega (arith, place, long, inside)) in
                rw (ap (λ (n : ℕ). get_or (put_mid a w xs ys) n 0) at
                ∙ in_part a w xs ys from long k inside ∙ ap (λ (n : ℕ). get_or ys n 0) place) low
            | inr other ↦
                rw (ap (λ (n : ℕ). get_or (put_mid a w xs ys) n 0) at
                ∙ in_part a w xs ys from long k inside ∙ kept k other
                ∙ of_part a w xs ys from long k inside) (old (a + k))
          ]
      | inr past ↦ rw (behind_part a w xs ys from long i (omega (arith, le, past))) (old i)
    ]
  ]

-- ---- the white rule of one plane

white_one : (n k : ℕ) → n ≤ 1 → is_white n k ≡ eqb n 1
white_one zero k low = refl
white_one (suc zero) k low = let none : k % 1 ≡ 0 = omega arith in rw none refl
white_one (suc (suc n)) k low = absurd (omega arith)

pub plane_is : (format : TexelFormat) (bytes : List ℕ) (k : ℕ) → format.invert ≤ 1
    → plane_sample (is_wide format.depth) format.big (eqb format.invert 1) bytes k
    ≡ unpacked format bytes k
plane_is format bytes k low = rw (white_one format.invert k low) refl
