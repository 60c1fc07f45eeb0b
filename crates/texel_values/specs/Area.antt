-- How does a region lie on its level, and which cells does it meet?
use Rattle.std.specs.Prelude.{◌≡◌, ℕ, ◌<◌, List}
use Rattle.tile_layout.specs.Grid.{shown_grid}
use Rattle.tile_layout.specs.Cell.{CutLevel}
use Rattle.tile_layout.specs.Value.{channel_value_of}
use Rattle.texel_values.specs.declared.area.Area.{Area}
use Rattle.texel_values.specs.declared.region.Region.{Region}
use Rattle.texel_values.specs.Overlap.{IsOverlap}
use Rattle.texel_values.specs.Region.{value_at}
use Rattle.texel_values.specs.RegionShape.{InWindow, column_of, row_of}
use Rattle.texel_values.specs.Met.{cell_met, count_met}

-- It is the area of this region on a level that is divided in this way.
pub record IsAreaOf (level : CutLevel) (region : Region) (channels : ℕ) (area : Area)
    : Type 0 where
  pub level_is : area.level ≡ region.level
  pub grid : shown_grid area.grid ≡ level
  pub columns : IsOverlap region.x region.w level.width area.window.columns
  pub rows : IsOverlap region.y region.h level.height area.window.rows
  pub width : area.window.width ≡ region.w
  pub height : area.height ≡ region.h
  pub channels_are : area.window.channels ≡ channels

-- the index of its k-th cell
abbrev pub area_cell : Area → ℕ → ℕ
area_cell area k = cell_met (shown_grid area.grid) area.window.columns area.window.rows k

-- the number of cells that it meets
abbrev pub area_cells : Area → ℕ
area_cells area = count_met (shown_grid area.grid) area.window.columns area.window.rows

-- Each texel of the region that lies on the level has its value, from a file with these bytes.
abbrev pub IsPainted : List ℕ → Area → List ℕ → Type 0
IsPainted bytes area values = (i j c : ℕ) → i < area.window.width → j < area.height
    → c < area.window.channels → InWindow area.window i j
    → value_at area.window.width area.window.channels values i j c
    ≡ channel_value_of bytes area.level (column_of area.window i) (row_of area.window j) c

-- The values of all texels outside the level are 0.
abbrev pub IsZeroBeside : Area → List ℕ → Type 0
IsZeroBeside area values = (i j c : ℕ) → i < area.window.width → j < area.height
    → c < area.window.channels → ¬ InWindow area.window i j
    → value_at area.window.width area.window.channels values i j c ≡ 0
