-- What is true of every format of texels?
use Rattle.std.specs.Prelude.{◌≡◌, ℕ, ◌*◌}
use Rattle.tiff_format.specs.Block.{sample_bytes}
use Rattle.tiff_format.specs.Facts.{IsChannelCount, IsDepth}

-- the samples of a texel are stored together
pub record IsTexelFormat (depth channels texel_bytes : ℕ) : Type 0 where
  pub bits : IsDepth depth
  pub count : IsChannelCount channels
  pub bytes : texel_bytes ≡ channels * sample_bytes depth
