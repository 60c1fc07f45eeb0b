use Rattle.std.proofs.Common.{refl, ◌∙◌, arith}
use Rattle.tile_layout.specs.Cell.{cell_index}
use Rattle.tile_layout.specs.Grid.{shown_grid}
use Rattle.tile_layout.proofs.CellLemmas.{index_below, holds_texel}
use Rattle.tile_layout.proofs.GridLemmas.{has_cells, few_cells}
use Rattle.tile_layout.proofs.grid.Grid.cell_at.Goals as goal

pub returns-clause-value : goal.returns-clause-value
unfolding cell_index
returns-clause-value c =
    c.index.ensures.value ∙ rw (c.cell_of.ensures.value, c.cell_of-2.ensures.value) refl

pub returns-clause-in_range : goal.returns-clause-in_range
returns-clause-in_range c =
    let grid = c.args.self.now in
    rw (returns-clause-value c)
    (index_below (shown_grid grid) (has_cells grid) c.args.x c.args.y c.requires.across
    c.requires.down)

pub returns-clause-few : goal.returns-clause-few
returns-clause-few c =
    omega (arith, returns-clause-in_range c, few_cells c.args.self.now)

pub returns-clause-holds : goal.returns-clause-holds
returns-clause-holds c =
    let grid = c.args.self.now in
    rw (returns-clause-value c)
    (holds_texel (shown_grid grid) (has_cells grid) c.args.x c.args.y c.requires.across
    c.requires.down)
