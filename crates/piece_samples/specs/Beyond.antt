-- Which samples of a rectangle are 0 because their bytes lie beyond the end of the file? In a
-- modelled file there are none: all strips and tiles lie in the file.
use Rattle.std.specs.Prelude.{◌≡◌, ℕ, ◌+◌, ◌-◌, ◌*◌, ◌<◌, ◌≤◌, min, List, slice_index}
use Rattle.tiff_format.specs.Block.{Level, texel_bytes}
use Rattle.tiff_format.specs.Texel.{sample_place, plane_of}
use Rattle.tiff_format.specs.declared.rect.Rect.{Rect}
use Rattle.tile_layout.specs.Pieces.{row_rest}
use Rattle.tile_layout.specs.Plane.{plane_level}

-- A piece is the texels of a plane's row, before column `right`, that are in one strip or tile. The
-- level is the plane taken alone. How many columns after column x is the last one of its piece?
abbrev pub columns_behind : Level → ℕ → ℕ → ℕ
columns_behind level right x = min (right - x) (row_rest level.shape x) - 1

-- the place in the file after the piece with texel (x, y)
abbrev pub piece_end : Level → ℕ → ℕ → ℕ → ℕ
piece_end level right x y =
    sample_place level (x + columns_behind level right x) y 0 + texel_bytes level.shape

-- the piece of texel (x, y) lies beyond this length of the file
abbrev pub IsBeyond : Level → ℕ → ℕ → ℕ → ℕ → Type 0
IsBeyond level right len x y = len < piece_end level right x y

-- the rectangle has texels
pub record IsFilled (rect : Rect) : Type 0 where
  pub wide : 1 ≤ rect.w
  pub high : 1 ≤ rect.h

-- every piece of the rectangle in this plane lies beyond this length of the file
abbrev pub IsPlaneBeyond : Level → ℕ → Rect → Type 0
IsPlaneBeyond level len rect = (i j : ℕ) → i < rect.w → j < rect.h
    → IsBeyond level (rect.x + rect.w) len (rect.x + i) (rect.y + j)

-- every piece of the rectangle in every plane lies beyond this length of the file
abbrev pub IsAllBeyond : Level → ℕ → Rect → Type 0
IsAllBeyond level len rect =
    (p : ℕ) → p < level.shape.planes → IsPlaneBeyond (plane_level level p) len rect

-- each sample of a piece of the rectangle beyond this length of the file is 0
abbrev pub CountAsZero : Level → ℕ → Rect → List ℕ → Type 0
CountAsZero level len rect samples = (i j c : ℕ) → i < rect.w → j < rect.h
    → c < level.shape.channels
    → IsBeyond (plane_level level (plane_of level.shape c)) (rect.x + rect.w) len (rect.x + i)
    (rect.y + j)
    → slice_index samples ((j * rect.w + i) * level.shape.channels + c) ≡ 0
