-- Which sample has a texel of a level, and what is its 16-bit value? (TIFF 6.0, sections 3 and 6 on
-- PhotometricInterpretation, section 8 on PlanarConfiguration, section 15 on tiles)
use Rattle.std.specs.Prelude.{ℕ, ◌+◌, ◌-◌, ◌*◌, ◌/◌, ◌%◌, ◌^◌, ◌==◌, ◌&&◌, Bool, List, slice_index}
use Rattle.std.specs.Prelude.{Option, Some, None, if◌then◌else◌}
use Rattle.tiff_format.specs.Bytes.{number_at, is_big}
use Rattle.tiff_format.specs.Block.{LevelShape, Level, pieces_over, sample_bytes, plane_blocks}
use Rattle.tiff_format.specs.Block.{samples_aside}
use Rattle.tiff_format.specs.Level.{directory_level}

-- ---- where a sample is

-- the strip, or the tile of this width and height, that holds texel (x, y)
abbrev pub block_by : LevelShape → Option (ℕ × ℕ) → ℕ → ℕ → ℕ
block_by shape None x y = y / shape.rows_per_strip
block_by shape (Some tile) x y = y / tile.1 * pieces_over shape.width tile.0 + x / tile.0

-- the block of a plane that holds texel (x, y)
abbrev pub block_index : LevelShape → ℕ → ℕ → ℕ
block_index shape x y = block_by shape shape.tile x y

-- the number of texels before texel (x, y) in its block, row by row of the strip or of the padded
-- tile
abbrev pub texels_before_by : LevelShape → Option (ℕ × ℕ) → ℕ → ℕ → ℕ
texels_before_by shape None x y = y % shape.rows_per_strip * shape.width + x
texels_before_by shape (Some tile) x y = y % tile.1 * tile.0 + x % tile.0

abbrev pub texels_before : LevelShape → ℕ → ℕ → ℕ
texels_before shape x y = texels_before_by shape shape.tile x y

-- the plane that holds channel c
abbrev pub plane_of : LevelShape → ℕ → ℕ
plane_of shape c = if shape.planes == 1 then 0 else c

-- the number of samples before channel c among those of a texel that are stored together
abbrev pub samples_before : LevelShape → ℕ → ℕ
samples_before shape c = if shape.planes == 1 then c else 0

-- the place of the sample of channel c of texel (x, y): in the block of its plane, after the
-- samples of the texels before it
unfoldable pub sample_place : Level → ℕ → ℕ → ℕ → ℕ
sample_place level x y c =
    slice_index level.offsets
    (plane_of level.shape c * plane_blocks level.shape + block_index level.shape x y)
    + (texels_before level.shape x y * samples_aside level.shape + samples_before level.shape c)
    * sample_bytes level.shape.depth

-- ---- which number it is

-- the greatest value of a sample with this many bits (section 8, PhotometricInterpretation:
-- 2**BitsPerSample-1)
abbrev pub greatest_sample : ℕ → ℕ
greatest_sample depth = 2 ^ depth - 1

-- The sample for a stored number. Channel 0 of a WhiteIsZero level is the greatest value minus the
-- stored number; every other sample is the stored number.
abbrev pub unwhite : Bool → ℕ → ℕ → ℕ
unwhite is_white depth stored = if is_white then greatest_sample depth - stored else stored

-- the sample of channel c of texel (x, y) of a level, highest byte first if `big`
unfoldable pub sample_in : Bool → List ℕ → Level → ℕ → ℕ → ℕ → ℕ
sample_in big bytes level x y c =
    unwhite (level.shape.white && (c == 0)) level.shape.depth
    (number_at big (sample_bytes level.shape.depth) bytes (sample_place level x y c))

-- the 16-bit value of a sample: an 8-bit sample v becomes 257 * v
abbrev pub value_of : ℕ → ℕ → ℕ
value_of depth sample = if depth == 8 then 257 * sample else sample

-- The sample of channel c of texel (x, y) of stored level l of a file.
abbrev pub sample_at : List ℕ → ℕ → ℕ → ℕ → ℕ → ℕ
sample_at bytes l x y c = sample_in (is_big bytes) bytes (directory_level bytes l) x y c
