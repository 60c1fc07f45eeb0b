-- Which samples does a buffer of texels hold, and in which size?
use Rattle.std.specs.Prelude.{◌≡◌, ℕ, Bool, true, false, List}
use Rattle.tile_layout.specs.declared.texel_format.TexelFormat.{TexelFormat}
use Rattle.rect_read.specs.declared.texels.RectSamples.{RectSamples}
use Rattle.rect_read.specs.declared.texels.RectSamples.TheVariants.{Bytes, Shorts}

-- the samples
abbrev pub samples_of : RectSamples → List ℕ
samples_of (Bytes samples) = samples.items
samples_of (Shorts samples) = samples.items

-- whether a sample takes two bytes, not one
abbrev pub are_wide : RectSamples → Bool
are_wide (Bytes samples) = false
are_wide (Shorts samples) = true

-- samples of this format are exactly the stored bytes
pub record AreBytes (format : TexelFormat) : Type 0 where
  pub depth : format.depth ≡ 8
  pub as_stored : format.invert ≡ 0

-- samples of this format can follow these
abbrev pub FitsTexels : RectSamples → TexelFormat → Type 0
FitsTexels texels format = are_wide texels ≡ false → AreBytes format
