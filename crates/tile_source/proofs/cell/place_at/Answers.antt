-- The cell in the column and the row of the texel is the one that holds it.
use Rattle.std.proofs.Common.{refl, ◌∙◌}
use Rattle.tile_layout.specs.Cell.{cell_index}
use Rattle.tile_layout.specs.Grid.{shown_grid}
use Rattle.tile_layout.proofs.CellLemmas.{holds_texel}
use Rattle.tile_layout.proofs.GridLemmas.{has_cells}
use Rattle.tile_source.proofs.cell.place_at.Goals as goal

pub returns-clause-index : goal.returns-clause-index
unfolding cell_index
returns-clause-index c =
    c.index.ensures.value ∙ rw (c.cell_of-column.ensures.value, c.cell_of-row.ensures.value) refl

pub returns-clause-rect : goal.returns-clause-rect
unfolding cell_index
returns-clause-rect c =
    c.rect.ensures.value ∙ rw (c.cell_of-column.ensures.value, c.cell_of-row.ensures.value) refl

pub returns-clause-holds : goal.returns-clause-holds
returns-clause-holds c =
    let grid = c.args.grid.now in
    rw (returns-clause-rect c)
    (holds_texel (shown_grid grid) (has_cells grid) c.args.x c.args.y c.requires.across
    c.requires.down)
