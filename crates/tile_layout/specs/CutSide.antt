-- What is true of a side that is divided into cells?
use Rattle.std.specs.Prelude.{◌≡◌, ℕ, ◌+◌, ◌/◌, ◌%◌, ◌^◌, ◌<◌, ◌≤◌}
use Rattle.tiff_format.specs.Block.{pieces_over}
use Rattle.tiff_format.specs.Limits.{max_side, tile_step}
use Rattle.tiff_format.specs.Facts.{IsSide}

-- the most cells along a side
abbrev pub max_cells_aside : ℕ
max_cells_aside = 8192

-- the most cells of a level
abbrev pub max_cells : ℕ
max_cells = 67108864

-- a cell is at most as long as a tile may be, or covers the side; its length is even, or it covers
-- the side
pub record IsCellSide (size cell : ℕ) : Type 0 where
  pub some : 1 ≤ cell
  pub high : cell ≤ max_side
  pub long : cell < tile_step → size ≤ cell
  pub even : cell < size → cell % 2 ≡ 0

-- the number by which a place is multiplied instead of being divided by a length: 1 / length,
-- rounded up, with 40 binary digits after the point
abbrev pub factor_of : ℕ → ℕ
factor_of cell = 2 ^ 40 / cell + 1

-- the side is that of a level, this many cells of this length cover it, and the factor belongs to
-- the length
pub record IsCutSide (size cell cells factor : ℕ) : Type 0 where
  pub side : IsSide size
  pub piece : IsCellSide size cell
  pub cover : cells ≡ pieces_over size cell
  pub few : cells ≤ max_cells_aside
  pub divides : factor ≡ factor_of cell
