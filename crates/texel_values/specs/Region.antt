-- Which values has a region of a level? (docs/FORMAT.md, "Values")
use Rattle.std.specs.Prelude.{◌≡◌, ℕ, ◌+◌, ◌*◌, ◌<◌, ◌++◌, pos, ◌+ℤ◌, List, length, slice_index}
use Rattle.std.specs.Prelude.{Option, Some, None}
use Rattle.tile_layout.specs.Cell.{channels_of}
use Rattle.tile_layout.specs.Level.{width_of, height_of}
use Rattle.tile_layout.specs.Value.{channel_value_of}
use Rattle.texel_values.specs.declared.region.Region.{Region}
use Rattle.texel_values.specs.Overlap.{index_in}

-- ---- values

-- the value of a channel of a texel; 0 if the column or the row does not exist
abbrev pub value_or_zero : (ℕ → ℕ → ℕ → ℕ) → Option ℕ → Option ℕ → ℕ → ℕ
value_or_zero value (Some x) (Some y) c = value x y c
value_or_zero value (Some x) None c = 0
value_or_zero value None y c = 0

-- channel c of texel (i, j) in the values of a rectangle w texels wide, row by row, all channels of
-- a texel together
abbrev pub value_at : ℕ → ℕ → List ℕ → ℕ → ℕ → ℕ → ℕ
value_at w channels values i j c = slice_index values (j * (w * channels) + (i * channels + c))

-- These are the values of a region of a level in a file with these bytes: row by row, all channels
-- of a texel together, and 0 outside the level.
pub record AreRegionValues (bytes : List ℕ) (region : Region) (values : List ℕ) : Type 0 where
  pub count : length values ≡ region.h * (region.w * channels_of bytes)
  pub each : (i j c : ℕ) → i < region.w → j < region.h → c < channels_of bytes
      → value_at region.w (channels_of bytes) values i j c
      ≡ value_or_zero (channel_value_of bytes region.level)
      (index_in (region.x +ℤ pos i) (width_of bytes region.level))
      (index_in (region.y +ℤ pos j) (height_of bytes region.level)) c

-- Values were appended, and `P` holds of them.
abbrev pub Appends : (List ℕ → Type 0) → List ℕ → List ℕ → Type 0
Appends P old new = (values : List ℕ) × (new ≡ old ++ values) × P values

-- the most texels that a region may have
abbrev pub max_texels : ℕ
max_texels = 1048576
