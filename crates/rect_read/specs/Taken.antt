-- Which samples have been taken so far, and what stays unchanged of other planes?
use Rattle.std.specs.Prelude.{◌≡◌, ◌≢◌, ℕ, ◌+◌, ◌*◌, ◌<◌, ◌≤◌, ◌==◌, List, length, map, slice_index}
use Rattle.std.specs.Prelude.{if◌then◌else◌, true}
use Rattle.std.specs.List.{range_with_len}
use Rattle.piece_samples.specs.declared.places.Places.{Places}
use Rattle.piece_samples.specs.Places.{FitsPlaces}
use Rattle.tile_layout.specs.declared.texel_format.TexelFormat.{TexelFormat}
use Rattle.rect_read.specs.declared.samples.Samples.{Samples}
use Rattle.rect_read.specs.RectSamples.{are_wide, samples_of, FitsTexels}

-- the first n samples of a plane, found at their places among those of all planes
abbrev pub samples_among : ℕ → ℕ → ℕ → List ℕ → List ℕ
samples_among step first n values =
    map (λ k. slice_index values (k * step + first)) (range_with_len 0 n)

-- all samples or, if there are several planes, those of one plane
unfoldable pub taken_by : Places → List ℕ → List ℕ
taken_by places values = if places.step == 1 then values
    else samples_among places.step places.first places.done values

-- the samples taken so far
abbrev pub taken : Samples → List ℕ
taken samples = taken_by samples.places (samples_of samples.values)

-- samples of this format can follow these; samples of several planes take two bytes each
pub record FitsSamples (samples : Samples) (format : TexelFormat) : Type 0 where
  pub texels : FitsTexels samples.values format
  pub places : FitsPlaces samples.places format
  pub wide : samples.places.step ≢ 1 → are_wide samples.values ≡ true

-- The places belong to the same plane, and the samples of the other planes are unchanged, with as
-- many bytes each. If memory was reserved for all samples, it still is.
pub record KeepsOthers (old new : Samples) : Type 0 where
  pub step : new.places.step ≡ old.places.step
  pub first : new.places.first ≡ old.places.first
  pub done : old.places.done ≤ new.places.done
  pub wide : are_wide new.values ≡ are_wide old.values
  pub room : old.places.step ≢ 1
      → new.places.done * old.places.step ≤ length (samples_of old.values)
      → length (samples_of new.values) ≡ length (samples_of old.values)
  pub others : (k c : ℕ) → c < old.places.step → c ≢ old.places.first
      → slice_index (samples_of new.values) (k * old.places.step + c)
      ≡ slice_index (samples_of old.values) (k * old.places.step + c)
