-- Which samples can a cell that is being made keep?
use Rattle.std.specs.Prelude.{◌≡◌, ℕ, ◌+◌, ◌<◌, ◌≤◌, List, length, slice_index}
use Rattle.tiff_format.specs.Texel.{greatest_sample}
use Rattle.rect_read.specs.declared.texels.RectSamples.{RectSamples}
use Rattle.rect_read.specs.declared.texels.RectSamples.TheVariants.{Bytes, Shorts}

-- the bits of a sample
abbrev pub sample_bits : RectSamples → ℕ
sample_bits (Bytes samples) = 8
sample_bits (Shorts samples) = 16

-- the greatest sample
abbrev pub most_of : RectSamples → ℕ
most_of samples = greatest_sample (sample_bits samples)

-- A row of samples was written as bytes from index `start` on, each sample that fits a byte
-- unchanged; all other bytes are unchanged.
pub record PutsRow (row : List ℕ) (start : ℕ) (old new : List ℕ) : Type 0 where
  pub long : length new ≡ length old
  pub before : (k : ℕ) → k < start → slice_index new k ≡ slice_index old k
  pub each : (k : ℕ) → k < length row → slice_index row k ≤ 255
      → slice_index new (start + k) ≡ slice_index row k
  pub behind : (k : ℕ) → start + length row ≤ k → slice_index new k ≡ slice_index old k
