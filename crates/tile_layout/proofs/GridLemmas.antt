-- The cells of a grid.
use Rattle.std.proofs.Common.{◌≡◌, ◌≤◌, arith, subst}
use Rattle.std.proofs.Math.Nat.{mul-le-mul}
use Rattle.tile_layout.specs.declared.grid.Grid.{Grid}
use Rattle.tile_layout.specs.Cell.{CutLevel, cells_across, cells_down, cell_count}
use Rattle.tile_layout.specs.CutSide.{max_cells_aside, max_cells}
use Rattle.tile_layout.specs.Grid.{shown_grid}
use Rattle.tile_layout.specs.Halving.{HalvesWithinCells}
use Rattle.tile_layout.proofs.CellLemmas.{HasCells}
use Rattle.tile_layout.proofs.HalvingCells.{halves_within}

module _ (grid : Grid) where
  pub has_cells : HasCells (shown_grid grid)
  has_cells = record {
    cell_width = grid.across.in_range.piece.some;
    cell_height = grid.down.in_range.piece.some;
  }

  pub few_cells : cell_count (shown_grid grid) ≤ max_cells
  few_cells =
      let across = grid.across.in_range in
      let down = grid.down.in_range in
      let columns : cells_across (shown_grid grid) ≤ max_cells_aside =
      omega (arith, across.cover, across.few) in
      let rows : cells_down (shown_grid grid) ≤ max_cells_aside =
      omega (arith, down.cover, down.few) in
      mul-le-mul columns rows

  pub grid_halves : (level : CutLevel) → shown_grid grid ≡ level → HalvesWithinCells level
  grid_halves level is = subst HalvesWithinCells is
      (halves_within (shown_grid grid) grid.across.in_range.piece grid.down.in_range.piece)
