use Rattle.std.proofs.Common.{◌≡◌, ◌<◌, sym, ap, ◌∙◌, subst, arith}
use Rattle.tile_layout.specs.Grid.{shown_grid}
use Rattle.tile_load.specs.Halving.{HalvingState, source_cut, part_count, part_key}
use Rattle.tile_load.specs.Halving.{IsPartOf}
use Rattle.tile_load.proofs.CellParts.{columns_low, column_is, row_is, part_fits, is_part}
use Rattle.tile_load.proofs.CellParts.{span_column, span_row, span_index, grid_columns, grid_rows}
use Rattle.tile_load.proofs.halving.Halving.part.Goals as goal

pub nonzero_rem-column : goal.nonzero_rem-column
nonzero_rem-column g c =
    let a = c.self.inside in
    omega (
      arith,
      c.self.invariant.spans.columns,
      columns_low a.layout.now a.cut a.key c.self.invariant.cell,
    )

pub nonzero_div-row : goal.nonzero_div-row
nonzero_div-row g c =
    let a = c.self.inside in
    omega (
      arith,
      c.self.invariant.spans.columns,
      columns_low a.layout.now a.cut a.key c.self.invariant.cell,
    )

pub index-index-requires-clause-column : goal.index-index-requires-clause-column
index-index-requires-clause-column g c =
    let a = c.self.inside in
    let is = c.self.invariant in
    let below : c.args.k < part_count a.layout.now a.cut a.key =
    subst (λ (s : HalvingState). c.args.k < part_count s.layout s.cut s.key) (sym c.self.view_is)
    c.requires in
    omega (
      arith,
      span_column a.layout.now a.cut a.key a.across a.down is.spans c.args.k,
      column_is a.layout.now a.cut a.key is.cell c.args.k below,
      grid_columns a.source (source_cut a.layout.now a.cut a.key) is.source_is,
    )

pub index-index-requires-clause-row : goal.index-index-requires-clause-row
index-index-requires-clause-row g c =
    let a = c.self.inside in
    let is = c.self.invariant in
    let below : c.args.k < part_count a.layout.now a.cut a.key =
    subst (λ (s : HalvingState). c.args.k < part_count s.layout s.cut s.key) (sym c.self.view_is)
    c.requires in
    omega (
      arith,
      span_row a.layout.now a.cut a.key a.across a.down is.spans c.args.k,
      row_is a.layout.now a.cut a.key is.cell c.args.k below,
      grid_rows a.source (source_cut a.layout.now a.cut a.key) is.source_is,
    )

pub overflow_add-column : goal.overflow_add-column
overflow_add-column g c =
    let a = c.self.inside in
    let is = c.self.invariant in
    let few = a.source.across.in_range.few in
    let below : c.args.k < part_count a.layout.now a.cut a.key =
    subst (λ (s : HalvingState). c.args.k < part_count s.layout s.cut s.key) (sym c.self.view_is)
    c.requires in
    omega (
      arith,
      span_column a.layout.now a.cut a.key a.across a.down is.spans c.args.k,
      column_is a.layout.now a.cut a.key is.cell c.args.k below,
      grid_columns a.source (source_cut a.layout.now a.cut a.key) is.source_is,
    )

pub overflow_add-row : goal.overflow_add-row
overflow_add-row g c =
    let a = c.self.inside in
    let is = c.self.invariant in
    let few = a.source.down.in_range.few in
    let below : c.args.k < part_count a.layout.now a.cut a.key =
    subst (λ (s : HalvingState). c.args.k < part_count s.layout s.cut s.key) (sym c.self.view_is)
    c.requires in
    omega (
      arith,
      span_row a.layout.now a.cut a.key a.across a.down is.spans c.args.k,
      row_is a.layout.now a.cut a.key is.cell c.args.k below,
      grid_rows a.source (source_cut a.layout.now a.cut a.key) is.source_is,
    )

pub new-requires : goal.new-requires
new-requires g c =
    let a = c.self.inside in
    let is = c.self.invariant in
    let below : c.args.k < part_count a.layout.now a.cut a.key =
    subst (λ (s : HalvingState). c.args.k < part_count s.layout s.cut s.key) (sym c.self.view_is)
    c.requires in
    let index = c.index-index.ensures.value
    ∙ span_index a.layout.now a.cut a.key a.across a.down is.spans (shown_grid a.source) c.args.k
    is.source_is in
    rw (c.generation.ensures.value, c.file.ensures.value, c.level.ensures.value, index)
    (part_fits a.layout.now a.cut a.key is.cell c.args.k below)

pub returns-clause-value : goal.returns-clause-value
returns-clause-value g c =
    let a = c.self.inside in
    let is = c.self.invariant in
    let index = c.index-index.ensures.value
    ∙ span_index a.layout.now a.cut a.key a.across a.down is.spans (shown_grid a.source) c.args.k
    is.source_is in
    let own : c.new.result ≡ part_key a.layout.now a.cut a.key c.args.k =
    rw (c.generation.ensures.value, c.file.ensures.value, c.level.ensures.value, index)
    at c.new.ensures.value in
    own ∙ ap (λ (s : HalvingState). part_key s.layout s.cut s.key c.args.k) c.self.view_is

pub returns-clause-part : goal.returns-clause-part
returns-clause-part g c =
    let a = c.self.inside in
    let below : c.args.k < part_count a.layout.now a.cut a.key =
    subst (λ (s : HalvingState). c.args.k < part_count s.layout s.cut s.key) (sym c.self.view_is)
    c.requires in
    rw (returns-clause-value g c)
    (subst (λ (s : HalvingState). IsPartOf s.layout s.cut s.key
    (part_key s.layout s.cut s.key c.args.k)) c.self.view_is
    (is_part a.layout.now a.cut a.key c.self.invariant.cell c.args.k below))
