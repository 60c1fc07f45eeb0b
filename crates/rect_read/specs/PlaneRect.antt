-- Which rectangles can be read?
use Rattle.std.specs.Prelude.{ℕ, ◌<◌}
use Rattle.tiff_format.specs.declared.rect.Rect.{Rect}
use Rattle.tile_layout.specs.Kept.{Kept, stored_count, level_in}
use Rattle.tile_layout.specs.Pieces.{LiesOnLevel}

-- the rectangle lies in a plane of a stored level
pub record IsPlace (layout : Kept) (level plane : ℕ) (rect : Rect) : Type 0 where
  pub stored : level < stored_count layout
  pub there : plane < (level_in layout level).shape.planes
  pub inside : LiesOnLevel layout level rect
