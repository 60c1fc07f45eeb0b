-- When do the texels of a rectangle follow one another in the file, row after row?
use Rattle.std.specs.Prelude.{◌≡◌, ℕ, ◌+◌, ◌*◌, ◌%◌, ◌^◌, ◌<◌, ◌≤◌, List, length, Option, Some, None}
use Rattle.tiff_format.specs.Block.{LevelShape, Level, sample_bytes, texel_bytes}
use Rattle.tiff_format.specs.Texel.{sample_place}
use Rattle.tiff_format.specs.declared.rect.Rect.{Rect}
use Rattle.tile_layout.specs.Blocks.{HoldsBlocks}

-- the width of a strip's or tile's row, in texels
abbrev pub block_width_by : LevelShape → Option (ℕ × ℕ) → ℕ
block_width_by shape None = shape.width
block_width_by shape (Some tile) = tile.0

abbrev pub block_width : LevelShape → ℕ
block_width shape = block_width_by shape shape.tile

-- the number of rows of a strip or tile
abbrev pub block_rows_by : LevelShape → Option (ℕ × ℕ) → ℕ
block_rows_by shape None = shape.rows_per_strip
block_rows_by shape (Some tile) = tile.1

abbrev pub block_rows : LevelShape → ℕ
block_rows shape = block_rows_by shape shape.tile

-- each row of the rectangle is a whole row of a strip or tile
pub record HasWholeRows (shape : LevelShape) (rect : Rect) : Type 0 where
  pub left : rect.x % block_width shape ≡ 0
  pub width : rect.w ≡ block_width shape

-- the row below row j of the rectangle begins in the file where row j ends
abbrev pub RowFollows : Level → Rect → ℕ → Type 0
RowFollows level rect j =
    sample_place level rect.x (rect.y + (j + 1)) 0
    ≡ sample_place level rect.x (rect.y + j) 0 + rect.w * texel_bytes level.shape

-- each row but the first begins in the file where the one above ends
abbrev pub RowsFollow : Level → Rect → Type 0
RowsFollow level rect = (j : ℕ) → j + 1 < rect.h → RowFollows level rect j

-- Each piece of the rectangle is a whole row of a strip or tile, and begins in the file where the
-- piece before ends. That is so for rows of one strip or tile, and for those of several that follow
-- one another directly.
pub record AreWholeRows (level : Level) (rect : Rect) : Type 0 where
  pub each : HasWholeRows level.shape rect
  pub rows : RowsFollow level rect

-- The samples of the rectangle follow one another from `at` on, row after row. They lie in every
-- file that contains the strips and tiles, and none lies past 2^64.
pub record StandsWhole (level : Level) (rect : Rect) (at : ℕ) : Type 0 where
  pub samples : (i j c : ℕ) → i < rect.w → j < rect.h
      → sample_place level (rect.x + i) (rect.y + j) c
      ≡ at + (j * rect.w + i) * texel_bytes level.shape + c * sample_bytes level.shape.depth
  pub inside : (bytes : List ℕ) → HoldsBlocks bytes level
      → at + rect.w * rect.h * texel_bytes level.shape ≤ length bytes
  pub ends : at + rect.w * rect.h * texel_bytes level.shape < 2 ^ 64
