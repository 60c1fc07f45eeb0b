-- Which level is half of another?
use Rattle.std.proofs.Common.{◌≡◌, ℕ, ◌+◌, ◌*◌, ◌/◌, ◌%◌, ◌<◌, ◌≤◌, List, ◌++◌, length, take, drop}
use Rattle.std.proofs.Common.{slice_index, sym, ap, ◌∙◌, subst, arith, inl, inr}
use Rattle.std.proofs.lemmas.Bool.{cases_lt}
use Rattle.std.proofs.lemmas.List.{take-append-le}
use Rattle.std.proofs.Math.Seq.{take-length}
use Rattle.std.proofs.lemmas.List.Elements.{All-get_or, All-from_get_or}
use Rattle.std.proofs.lemmas.Nat.{mul-add-lt, div-add-mod', mod_below, div_below}
use Rattle.tiff_format.specs.Facts.{IsSide}
use Rattle.tiff_format.specs.Level.{halved}
use Rattle.tiff_format.specs.Texel.{greatest_sample}
use Rattle.tile_layout.specs.Texel.{average, clamped, quarter, FitDepth}
use Rattle.tex_make.specs.PlainLevel.{PlainLevel, IsPlainLevel, plain_level, place_in, sample_in}
use Rattle.tex_make.specs.HalfRows.{AreHalfRows}

-- ---- bounds

-- half of a side is one
pub half_side : (side : ℕ) → IsSide side → IsSide (halved side)
half_side side is = let low = is.low in let high = is.high in
    record { low = omega arith; high = omega arith }

clamped_in : (side place : ℕ) → 1 ≤ side → clamped side place < side
clamped_in side place some = omega arith

-- the average of four is no greater than they are
average_low : (a b c d m : ℕ) → a ≤ m → b ≤ m → c ≤ m → d ≤ m → average a b c d ≤ m
average_low a b c d m la lb lc ld = omega arith

-- the average of four samples is in range, if they are
pub quarter_low : (w h : ℕ) (sample : ℕ → ℕ → ℕ) (m i j : ℕ) → 1 ≤ w → 1 ≤ h
    → ((i j : ℕ) → i < w → j < h → sample i j ≤ m) → quarter sample w h i j ≤ m
quarter_low w h sample m i j wide high low =
    let i_left = clamped_in w (2 * i) wide in
    let i_right = clamped_in w (2 * i + 1) wide in
    let j_top = clamped_in h (2 * j) high in
    let j_bottom = clamped_in h (2 * j + 1) high in
    average_low
    (sample (clamped w (2 * i)) (clamped h (2 * j)))
    (sample (clamped w (2 * i + 1)) (clamped h (2 * j)))
    (sample (clamped w (2 * i)) (clamped h (2 * j + 1)))
    (sample (clamped w (2 * i + 1)) (clamped h (2 * j + 1))) m
    (low (clamped w (2 * i)) (clamped h (2 * j)) i_left j_top)
    (low (clamped w (2 * i + 1)) (clamped h (2 * j)) i_right j_top)
    (low (clamped w (2 * i)) (clamped h (2 * j + 1)) i_left j_bottom)
    (low (clamped w (2 * i + 1)) (clamped h (2 * j + 1)) i_right j_bottom)

-- ---- samples by their places

pub place_below : (w h n i j c : ℕ) → i < w → j < h → c < n → (j * w + i) * n + c < w * h * n
place_below w h n i j c across down channel =
    let texel : j * w + i < w * h = mul-add-lt j w i h down across in
    omega (arith, mul-add-lt (j * w + i) n c (w * h) texel channel)

-- a fact of each sample, given by its place, is a fact of all
pub all_samples : (P : ℕ → Type 0) (w h n : ℕ) (samples : List ℕ) → length samples ≡ w * h * n
    → ((i j c : ℕ) → i < w → j < h → c < n → P (slice_index samples ((j * w + i) * n + c)))
    → (k : ℕ) → k < length samples → P (slice_index samples k)
all_samples P w h n samples long each k below =
    let inside : k < w * h * n = omega arith in
    elim (cases_lt 0 n) [
      | inl channels ↦
          elim (cases_lt 0 w) [
            | inl columns ↦
                let t = k / n in
                let texel : t < w * h = div_below k n (w * h) channels inside in
                let turned : t < h * w = omega (arith, texel) in
                let row : t / w < h = div_below t w h columns turned in
                let at : (t / w * w + t % w) * n + k % n ≡ k =
                ap (λ (q : ℕ). q * n + k % n) (div-add-mod' t w) ∙ div-add-mod' k n in
                subst (λ (q : ℕ). P (slice_index samples q)) at
                (each (t % w) (t / w) (k % n) (mod_below t w columns) row
                (mod_below k n channels))
            | inr none ↦
                let zero_is : w ≡ 0 = omega arith in
                let empty : w * h * n ≡ 0 = ap (λ (q : ℕ). q * h * n) zero_is ∙ omega arith in
                absurd (omega arith)
          ]
      | inr none ↦
          let zero_is : n ≡ 0 = omega arith in
          let empty : w * h * n ≡ 0 = ap (λ (q : ℕ). w * h * q) zero_is ∙ omega arith in
          absurd (omega arith)
    ]

-- ---- a level

module _ (level : PlainLevel) (is : IsPlainLevel level) where
  -- none of its samples is above the greatest
  pub sample_low : (x y c : ℕ) → x < level.width → y < level.height → c < level.channels
      → sample_in level x y c ≤ greatest_sample level.depth
  sample_low x y c across down channel =
      All-get_or (λ s. s ≤ greatest_sample level.depth) level.samples (place_in level x y c) 0
      (omega (
        arith,
        is.count,
        place_below level.width level.height level.channels x y c across down channel,
      )) is.low

  -- the samples of the next smaller level are in range
  module _ (out : List ℕ)
      (long : length out ≡ halved level.width * halved level.height * level.channels)
      (rows : AreHalfRows level (halved level.height) out) where
    fits : FitDepth level.depth out
    fits = All-from_get_or (λ s. s ≤ greatest_sample level.depth) out 0
        (all_samples (λ s. s ≤ greatest_sample level.depth) (halved level.width)
        (halved level.height) level.channels out long
        (λ i j c across down channel.
        subst (λ (s : ℕ). s ≤ greatest_sample level.depth) (sym (rows i j c across down channel))
        (quarter_low level.width level.height (λ x y. sample_in level x y c)
        (greatest_sample level.depth) i j is.wide.low is.high.low
        (λ x y right bottom. sample_low x y c right bottom channel))))

    -- half of a level is a level
    pub half_is : IsPlainLevel (plain_level (halved level.width) (halved level.height)
        level.channels level.depth out)
    half_is = record {
      wide = half_side level.width is.wide;
      high = half_side level.height is.high;
      some = is.some;
      bits = is.bits;
      count = long;
      low = fits;
    }

-- what was written over the whole of a list is all of it
pub all_written : (len : ℕ) (new old : List ℕ) → length new ≡ len
    → take len (new ++ drop (length new) old) ≡ new
all_written len new old long =
    ap (λ (n : ℕ). take n (new ++ drop (length new) old)) (sym long)
    ∙ take-append-le (length new) new (drop (length new) old) (omega arith)
    ∙ take-length new
