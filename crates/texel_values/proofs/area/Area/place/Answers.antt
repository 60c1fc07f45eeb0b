-- The cell is one of the level's.
use Rattle.std.proofs.Common.{◌∙◌}
use Rattle.texel_values.proofs.AreaLemmas.{column_low, row_low}
use Rattle.texel_values.proofs.area.Area.place.Goals as goal

pub returns-clause-column : goal.returns-clause-column
returns-clause-column c =
    let area = c.args.self.now in
    let across = c.from-across.ensures ∙ area.met.across_is in
    rw (c.cell_of.ensures.value, across, area.grid.across.in_range.cover)
    (column_low area c.args.k c.requires)

pub returns-clause-row : goal.returns-clause-row
returns-clause-row c =
    let area = c.args.self.now in
    let across = c.from-across.ensures ∙ area.met.across_is in
    rw (c.cell_of-2.ensures.value, across, area.grid.down.in_range.cover)
    (row_low area c.args.k c.requires)
