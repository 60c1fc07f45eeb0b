-- Which number is each sample in the bytes of a strip or tile? (TIFF 6.0, section 2, "Image File
-- Header", on the byte order, and section 8 on BitsPerSample and PhotometricInterpretation)
use Rattle.std.specs.Prelude.{ℕ, ◌*◌, ◌%◌, ◌==◌, ◌&&◌, not, Bool, List, if◌then◌else◌}
use Rattle.tiff_format.specs.Bytes.{number_at}
use Rattle.tiff_format.specs.Block.{sample_bytes}
use Rattle.tiff_format.specs.Texel.{unwhite}

-- the bits of a sample: 16 if it is wide, otherwise 8 (section 8, BitsPerSample)
abbrev pub depth_of : Bool → ℕ
depth_of wide = if wide then 16 else 8

-- the bytes of a sample of that depth
abbrev pub sample_size : Bool → ℕ
sample_size wide = sample_bytes (depth_of wide)

-- The stored number of sample k. Samples follow one another, and of two bytes the highest comes
-- first if `big`. (section 2, "Image File Header")
abbrev pub stored_sample : Bool → Bool → List ℕ → ℕ → ℕ
stored_sample wide big bytes k = number_at big (sample_size wide) bytes (sample_size wide * k)

-- Whether sample k belongs to channel 0 of a WhiteIsZero image with `invert` channels. For any
-- other image `invert` is 0, and no sample does. (section 8, PhotometricInterpretation, and
-- PlanarConfiguration: channels are stored together)
abbrev pub is_white : ℕ → ℕ → Bool
is_white invert k = not (invert == 0) && (k % invert == 0)

-- Sample k, inverted if it must be.
abbrev pub sample_of : Bool → Bool → ℕ → List ℕ → ℕ → ℕ
sample_of wide big invert bytes k =
    unwhite (is_white invert k) (depth_of wide) (stored_sample wide big bytes k)
