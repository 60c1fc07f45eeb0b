-- How do contracts see a grid?
use Rattle.tile_layout.specs.declared.grid.Grid.{Grid}
use Rattle.tile_layout.specs.Cell.{CutLevel}

-- the divided level as plain data
abbrev pub shown_grid : Grid → CutLevel
shown_grid grid = record {
  width = grid.across.size;
  height = grid.down.size;
  cell_width = grid.across.cell;
  cell_height = grid.down.cell;
}
