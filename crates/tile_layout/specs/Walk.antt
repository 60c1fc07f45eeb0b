-- How do the functions of this crate describe a walk over a rectangle?
use Rattle.std.specs.Prelude.{ℕ, zero, suc, ◌+◌, ◌-◌, ◌<◌, ◌≤◌, List, [], ◌++◌}
use Rattle.std.specs.List.{range_with_len, flat_map}
use Rattle.tiff_format.specs.Block.{LevelShape, Level}
use Rattle.tiff_format.specs.declared.rect.Rect.{Rect}
use Rattle.tile_layout.specs.Pieces.{Walk, LiesOn, row_texels}

-- the texels to come in this many rows from row y on: in row y those from x on, in later rows those
-- from `left` on, all before `right`
abbrev pub texels_left : ℕ → ℕ → ℕ → ℕ → ℕ → List (ℕ × ℕ)
texels_left left right x y zero = []
texels_left left right x y (suc rows) =
    row_texels x y (right - x)
    ++ flat_map (λ j. row_texels left j (right - left)) (range_with_len (y + 1) rows)

-- what is left of a walk over a rectangle, if (x, y) comes next
abbrev pub walk_at : Level → Rect → ℕ → ℕ → Walk
walk_at level rect x y = record {
  level = level;
  right = rect.x + rect.w;
  texels = texels_left rect.x (rect.x + rect.w) x y (rect.y + rect.h - y);
}

-- the rectangle lies inside a level of this shape, the plane is one of its planes, and the next
-- texel, if there is one, lies in the rectangle's columns
pub record IsWalk (shape : LevelShape) (plane : ℕ) (rect : Rect) (x y : ℕ) : Type 0 where
  pub is : plane < shape.planes
  pub on : LiesOn shape.width shape.height rect
  pub row : y ≤ rect.y + rect.h
  pub next : y < rect.y + rect.h → (rect.x ≤ x) × (x < rect.x + rect.w)
