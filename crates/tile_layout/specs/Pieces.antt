-- Where are the texels of a rectangle of a level in the file?
use Rattle.std.specs.Prelude.{◌≡◌, ℕ, ◌+◌, ◌-◌, ◌*◌, ◌%◌, ◌^◌, ◌<◌, ◌≤◌, min, List, [], ◌++◌}
use Rattle.std.specs.Prelude.{map, slice_index, MatchOption, Option, Some, None}
use Rattle.std.specs.List.{range_with_len, flat_map}
use Rattle.tiff_format.specs.Block.{LevelShape, Level, sample_bytes, texel_bytes, blocks_of}
use Rattle.tiff_format.specs.Block.{block_bytes}
use Rattle.tiff_format.specs.Texel.{block_index, sample_place}
use Rattle.tiff_format.specs.declared.rect.Rect.{Rect}
use Rattle.tile_layout.specs.declared.piece.Piece.{Piece}
use Rattle.tile_layout.specs.Kept.{Kept}
use Rattle.tile_layout.specs.Level.{width_in, height_in}

-- n texels of a row, from (x, y) on
abbrev pub row_texels : ℕ → ℕ → ℕ → List (ℕ × ℕ)
row_texels x y n = map (λ j. (x + j, y)) (range_with_len 0 n)

-- the texels of a rectangle, row by row
abbrev pub rect_texels : Rect → List (ℕ × ℕ)
rect_texels rect = flat_map (λ y. row_texels rect.x y rect.w) (range_with_len rect.y rect.h)

-- the rectangle lies inside a level of this width and height
pub record LiesOn (width height : ℕ) (rect : Rect) : Type 0 where
  pub across : rect.x + rect.w ≤ width
  pub down : rect.y + rect.h ≤ height

-- the rectangle lies inside this level of the file
abbrev pub LiesOnLevel : Kept → ℕ → Rect → Type 0
LiesOnLevel file l rect = LiesOn (width_in file l) (height_in file l) rect

-- the number of texels from texel x of a row to the end of the row of its block: the row of a strip
-- is that of the level, the row of a tile is the tile's
abbrev pub row_rest_by : LevelShape → Option (ℕ × ℕ) → ℕ → ℕ
row_rest_by shape None x = shape.width - x
row_rest_by shape (Some tile) x = tile.0 - x % tile.0

abbrev pub row_rest : LevelShape → ℕ → ℕ
row_rest shape x = row_rest_by shape shape.tile x

-- the strip or tile that holds the first texel of a piece
abbrev pub block_of : LevelShape → Piece → ℕ
block_of shape piece = block_index shape piece.x piece.y

-- the bytes of a piece lie in that strip or tile
pub record LiesInBlock (level : Level) (piece : Piece) : Type 0 where
  pub is : block_of level.shape piece < blocks_of level.shape
  pub from : slice_index level.offsets (block_of level.shape piece) ≤ piece.at
  pub to : piece.at + piece.n * texel_bytes level.shape
      ≤ slice_index level.offsets (block_of level.shape piece)
      + block_bytes level.shape (block_of level.shape piece)

-- The level is one plane, taken alone. The piece has at least one texel, and reaches as far as
-- `right` and the row of its block allow. Its texels follow one another in the file from `at` on.
-- Its bytes lie in its block, and none lies past 2^64.
pub record LiesSideBySide (level : Level) (right : ℕ) (piece : Piece) : Type 0 where
  pub some : 1 ≤ piece.n
  pub long : piece.n ≡ min (right - piece.x) (row_rest level.shape piece.x)
  pub place : (j : ℕ) → j < piece.n
      → sample_place level (piece.x + j) piece.y 0 ≡ piece.at + j * texel_bytes level.shape
  pub samples : (j c : ℕ) → j < piece.n → sample_place level (piece.x + j) piece.y c
      ≡ piece.at + j * texel_bytes level.shape + c * sample_bytes level.shape.depth
  pub block : LiesInBlock level piece
  pub ends : piece.at + piece.n * texel_bytes level.shape < 2 ^ 64

-- What is left of a walk over a rectangle of a plane: the texels to come, in rows that end before
-- `right`.
pub record Walk : Type 0 where
  pub level : Level
  pub right : ℕ
  pub texels : List (ℕ × ℕ)

-- the walk over a whole rectangle
abbrev pub walk_over : Level → Rect → Walk
walk_over level rect = record {
  level = level;
  right = rect.x + rect.w;
  texels = rect_texels rect;
}

-- the piece has the first texels that were left, and the others remain
pub record Takes (old : Walk) (piece : Piece) (new : Walk) : Type 0 where
  pub texels : old.texels ≡ row_texels piece.x piece.y piece.n ++ new.texels
  pub lies : LiesSideBySide old.level old.right piece
  pub level : new.level ≡ old.level
  pub right : new.right ≡ old.right

-- there is no piece if and only if no texel is left, and then nothing changes
abbrev pub GivesPiece : Walk → Option Piece → Walk → Type 0
GivesPiece old result new =
    MatchOption result ((old.texels ≡ []) × (new ≡ old)) (λ piece. Takes old piece new)
