-- Which cells of a level does a region meet?
use Rattle.std.specs.Prelude.{◌≡◌, ℕ, ◌+◌, ◌-◌, ◌*◌, ◌/◌, ◌%◌, ◌≤◌, ◌==◌, if◌then◌else◌}
use Rattle.tile_layout.specs.declared.grid.Grid.{Grid}
use Rattle.tile_layout.specs.Cell.{CutLevel, cells_across}
use Rattle.texel_values.specs.declared.overlap.Overlap.{Overlap}
use Rattle.texel_values.specs.declared.window.RegionShape.{RegionShape}

-- the number of cells that a range of places on a side meets
abbrev pub cells_met : ℕ → ℕ → ℕ → ℕ
cells_met cell first inside =
    if inside == 0 then 0 else (first + inside - 1) / cell - first / cell + 1

-- The index of the k-th cell that a region meets, row by row. The region covers these columns and
-- rows of the level.
abbrev pub cell_met : CutLevel → Overlap → Overlap → ℕ → ℕ
cell_met level columns rows k =
    let across = cells_met level.cell_width columns.first columns.inside in
    (rows.first / level.cell_height + k / across) * cells_across level
    + (columns.first / level.cell_width + k % across)

-- the number of cells that a region meets
abbrev pub count_met : CutLevel → Overlap → Overlap → ℕ
count_met level columns rows =
    cells_met level.cell_height rows.first rows.inside
    * cells_met level.cell_width columns.first columns.inside

-- this many cells are met across and down, and the window lies on the level
pub record IsMet (grid : Grid) (window : RegionShape) (across down : ℕ) : Type 0 where
  pub across_is : across ≡ cells_met grid.across.cell window.columns.first window.columns.inside
  pub down_is : down ≡ cells_met grid.down.cell window.rows.first window.rows.inside
  pub columns : window.columns.first + window.columns.inside ≤ grid.across.size
  pub rows : window.rows.first + window.rows.inside ≤ grid.down.size
