-- Samples that fit a depth, by their places.
use Rattle.std.proofs.Common.{ℕ, ◌≤◌, List, ◌++◌, length, get_or, take, drop, arith, inl, inr}
use Rattle.std.proofs.lemmas.Bool.{cases_lt}
use Rattle.std.proofs.lemmas.List.{get_or_past}
use Rattle.std.proofs.lemmas.List.Elements.{All-get_or, All-from_get_or}
use Rattle.std.proofs.lemmas.List.Elements.{All-append, All-take, All-drop}
use Rattle.tiff_format.specs.Texel.{greatest_sample}
use Rattle.tile_layout.specs.Texel.{FitDepth}
use borrow.Rule.Slice.PartMut.{put_mid}

-- no sample is greater, also after the last one
pub each_low : (depth : ℕ) (samples : List ℕ) → FitDepth depth samples → (k : ℕ)
    → get_or samples k 0 ≤ greatest_sample depth
each_low depth samples fit k = elim (cases_lt k (length samples)) [
  | inl lt ↦ All-get_or (λ s. s ≤ greatest_sample depth) samples k 0 lt fit
  | inr past ↦ rw (get_or_past samples k 0 past) (omega arith)
]

pub all_low : (depth : ℕ) (samples : List ℕ)
    → ((k : ℕ) → get_or samples k 0 ≤ greatest_sample depth) → FitDepth depth samples
all_low depth samples each =
    All-from_get_or (λ s. s ≤ greatest_sample depth) samples 0 (λ k lt. each k)

-- a list of which w elements were written, from index a on
pub part_low : (depth a w : ℕ) (old new : List ℕ) → FitDepth depth old → FitDepth depth new
    → FitDepth depth (put_mid a w old new)
part_low depth a w old new fit written =
    let P : ℕ → Type 0 = λ s. s ≤ greatest_sample depth in
    let rest = drop w (drop a old) in
    All-append P (take a old) (new ++ rest) (All-take P a old fit)
    (All-append P new rest written (All-drop P w (drop a old) (All-drop P a old fit)))
