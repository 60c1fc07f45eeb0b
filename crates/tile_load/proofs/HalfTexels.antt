-- The samples of a cell of a generated level, by those of its parts.
use Rattle.std.proofs.Common.{◌≡◌, ℕ, zero, suc, ◌+◌, ◌-◌, ◌*◌, ◌/◌, ◌%◌, ◌<◌, ◌≤◌, List, length}
use Rattle.std.proofs.Common.{slice_index, refl, sym, ap, ◌∙◌, subst, arith, inl, inr}
use Rattle.std.proofs.lemmas.Bool.{cases_lt, le-ltb}
use Rattle.std.proofs.lemmas.Nat.{mul-add-lt, div-add-mod', mod_below, div_below}
use Rattle.tiff_format.specs.Level.{halved}
use Rattle.tiff_format.specs.declared.rect.Rect.{Rect}
use Rattle.tile_layout.specs.Kept.{Kept, stored_count}
use Rattle.tile_layout.specs.Level.{width_in, height_in}
use Rattle.tile_layout.specs.Texel.{texel_in, average, clamped, quarter}
use Rattle.tile_load.specs.PartPlace.{IsPartPlace, HalvesRows, left_of, top_of, sample_on}

-- ---- a generated texel

pub texel_generated : (file : Kept) (bytes : List ℕ) (l x y c : ℕ) → 1 ≤ l → stored_count file ≤ l
    → texel_in file bytes l x y c
    ≡ quarter (λ i j. texel_in file bytes (l - 1) i j c) (width_in file (l - 1))
    (height_in file (l - 1)) x y
unfolding texel_in
texel_generated file bytes zero x y c some generated = absurd (omega arith)
texel_generated file bytes (suc l) x y c some generated =
    let before : suc l - 1 ≡ l = omega arith in
    rw (le-ltb (suc l) (stored_count file) generated, before) refl

-- the average of four is no greater than they are
average_low : (a b c d m : ℕ) → a ≤ m → b ≤ m → c ≤ m → d ≤ m → average a b c d ≤ m
average_low a b c d m la lb lc ld = omega arith

-- ---- half of a part

clamped_in : (side place : ℕ) → 1 ≤ side → clamped side place < side
clamped_in side place some = omega arith

module _ (part : Rect) (wide : 1 ≤ part.w) (high : 1 ≤ part.h) where
  -- the average of four of its samples, which are those of texels of a level
  pub quarter_told : (sample texel : ℕ → ℕ → ℕ) (width height x y i j : ℕ)
      → ((i j : ℕ) → i < part.w → j < part.h → sample i j ≡ texel (part.x + i) (part.y + j))
      → clamped width (2 * x) ≡ part.x + clamped part.w (2 * i)
      → clamped width (2 * x + 1) ≡ part.x + clamped part.w (2 * i + 1)
      → clamped height (2 * y) ≡ part.y + clamped part.h (2 * j)
      → clamped height (2 * y + 1) ≡ part.y + clamped part.h (2 * j + 1)
      → quarter sample part.w part.h i j ≡ quarter texel width height x y
  quarter_told sample texel width height x y i j are left right top bottom =
      let i_left = clamped_in part.w (2 * i) wide in
      let i_right = clamped_in part.w (2 * i + 1) wide in
      let j_top = clamped_in part.h (2 * j) high in
      let j_bottom = clamped_in part.h (2 * j + 1) high in
      rw (
        left,
        right,
        top,
        bottom,
        are (clamped part.w (2 * i)) (clamped part.h (2 * j)) i_left j_top,
        are (clamped part.w (2 * i + 1)) (clamped part.h (2 * j)) i_right j_top,
        are (clamped part.w (2 * i)) (clamped part.h (2 * j + 1)) i_left j_bottom,
        are (clamped part.w (2 * i + 1)) (clamped part.h (2 * j + 1)) i_right j_bottom,
      ) refl

  pub quarter_low : (sample : ℕ → ℕ → ℕ) (m i j : ℕ)
      → ((i j : ℕ) → i < part.w → j < part.h → sample i j ≤ m)
      → quarter sample part.w part.h i j ≤ m
  quarter_low sample m i j low =
      let i_left = clamped_in part.w (2 * i) wide in
      let i_right = clamped_in part.w (2 * i + 1) wide in
      let j_top = clamped_in part.h (2 * j) high in
      let j_bottom = clamped_in part.h (2 * j + 1) high in
      average_low
      (sample (clamped part.w (2 * i)) (clamped part.h (2 * j)))
      (sample (clamped part.w (2 * i + 1)) (clamped part.h (2 * j)))
      (sample (clamped part.w (2 * i)) (clamped part.h (2 * j + 1)))
      (sample (clamped part.w (2 * i + 1)) (clamped part.h (2 * j + 1))) m
      (low (clamped part.w (2 * i)) (clamped part.h (2 * j)) i_left j_top)
      (low (clamped part.w (2 * i + 1)) (clamped part.h (2 * j)) i_right j_top)
      (low (clamped part.w (2 * i)) (clamped part.h (2 * j + 1)) i_left j_bottom)
      (low (clamped part.w (2 * i + 1)) (clamped part.h (2 * j + 1)) i_right j_bottom)

-- ---- the samples of a rectangle, one by one and all

pub place_below : (w h n i j c : ℕ) → i < w → j < h → c < n → (j * w + i) * n + c < w * h * n
place_below w h n i j c across down channel =
    let texel : j * w + i < w * h = mul-add-lt j w i h down across in
    omega (arith, mul-add-lt (j * w + i) n c (w * h) texel channel)

-- a fact of each sample, given by its place, is a fact of all
pub all_samples : (P : ℕ → Type 0) (w h n : ℕ) (samples : List ℕ) → length samples ≡ w * h * n
    → ((i j c : ℕ) → i < w → j < h → c < n → P (sample_on w n samples i j c))
    → (k : ℕ) → k < length samples → P (slice_index samples k)
all_samples P w h n samples long each k below =
    let inside : k < w * h * n = omega arith in
    elim (cases_lt 0 n) [
      | inl channels ↦
          elim (cases_lt 0 w) [
            | inl columns ↦
                let t = k / n in
                let texel : t < w * h = div_below k n (w * h) channels inside in
                let turned : t < h * w = omega (arith, texel) in
                let row : t / w < h = div_below t w h columns turned in
                let at : (t / w * w + t % w) * n + k % n ≡ k =
                ap (λ (q : ℕ). q * n + k % n) (div-add-mod' t w) ∙ div-add-mod' k n in
                subst (λ (q : ℕ). P (slice_index samples q)) at
                (each (t % w) (t / w) (k % n) (mod_below t w columns) row
                (mod_below k n channels))
            | inr none ↦
                let zero_is : w ≡ 0 = omega arith in
                let empty : w * h * n ≡ 0 = ap (λ (q : ℕ). q * h * n) zero_is ∙ omega arith in
                absurd (omega arith)
          ]
      | inr none ↦
          let zero_is : n ≡ 0 = omega arith in
          let empty : w * h * n ≡ 0 = ap (λ (q : ℕ). w * h * q) zero_is ∙ omega arith in
          absurd (omega arith)
    ]

-- ---- the samples of a cell, after half of a part was written

module _ (part cell : Rect) (n : ℕ) (is : IsPartPlace part cell n) (source old new : List ℕ)
    (most : ℕ) (halves : HalvesRows part cell n source most 0 (halved part.h) old new) where
  -- the samples are either those of before, of texels that the part does not make, or made of it
  pub by_cases : (P : ℕ → Type 0) (i j c : ℕ) → i < cell.w → j < cell.h → c < n
      → ((a b : ℕ) → quarter (λ x y. sample_on part.w n source x y c) part.w part.h a b ≤ most)
      → ((part.x / 2 ≤ cell.x + i → cell.x + i < part.x / 2 + halved part.w
      → part.y / 2 ≤ cell.y + j → cell.y + j < part.y / 2 + halved part.h → ⊥)
      → P (sample_on cell.w n old i j c))
      → ((a b : ℕ) → a < halved part.w → b < halved part.h
      → cell.x + i ≡ part.x / 2 + a → cell.y + j ≡ part.y / 2 + b
      → P (quarter (λ x y. sample_on part.w n source x y c) part.w part.h a b))
      → P (sample_on cell.w n new i j c)
  by_cases P i j c across down channel low outside inside =
      let left = left_of part cell in
      let top = top_of part cell in
      let from_left = is.left in
      let to_right = is.right in
      let from_top = is.top in
      let to_bottom = is.bottom in
      elim (cases_lt i left) [
        | inl first ↦ subst P (sym (halves.before i j c across down channel first))
            (outside (λ a b d e. omega arith))
        | inr right ↦ elim (cases_lt i (left + halved part.w)) [
          | inr far ↦ subst P (sym (halves.behind i j c across down channel far))
              (outside (λ a b d e. omega arith))
          | inl within ↦ elim (cases_lt j top) [
            | inl up ↦ subst P (sym (halves.above i j c across down channel (omega arith)))
                (outside (λ a b d e. omega arith))
            | inr lower ↦ elim (cases_lt j (top + halved part.h)) [
              | inr under ↦ subst P (sym (halves.below i j c across down channel under))
                  (outside (λ a b d e. omega arith))
              | inl on ↦
                  let a : ℕ = i - left in
                  let b : ℕ = j - top in
                  let i_is : left + a ≡ i = omega arith in
                  let j_is : top + b ≡ j = omega arith in
                  let made = halves.made a b c (omega arith) (omega arith) (omega arith) channel (low a b) in
                  let here : sample_on cell.w n new i j c
                  ≡ quarter (λ x y. sample_on part.w n source x y c) part.w part.h a b =
                  ap (λ (q : ℕ). sample_on cell.w n new q j c) (sym i_is)
                  ∙ ap (λ (q : ℕ). sample_on cell.w n new (left + a) q c) (sym j_is) ∙ made in
                  subst P (sym here)
                  (inside a b (omega arith) (omega arith) (omega arith) (omega arith))
            ]
          ]
        ]
      ]

-- the samples of a part fit the depth, by their places
pub part_low : (m : ℕ) (part : Rect) (n : ℕ) (source : List ℕ)
    → length source ≡ part.w * part.h * n → ((k : ℕ) → k < length source → slice_index source k ≤ m)
    → (c : ℕ) → c < n → (i j : ℕ) → i < part.w → j < part.h → sample_on part.w n source i j c ≤ m
part_low m part n source long low c channel i j across down =
    low ((j * part.w + i) * n + c)
    (omega (arith, place_below part.w part.h n i j c across down channel))
