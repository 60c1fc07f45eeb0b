use Rattle.std.proofs.Common.{◌≡◌, ◌/◌, ◌%◌, ◌<◌, refl, arith}
use Rattle.std.proofs.lemmas.Nat.{div-mul-add, mod-mul-add}
use Rattle.tile_layout.specs.Cell.{cell_rect, cells_across, number_of}
use Rattle.tile_layout.specs.Grid.{shown_grid}
use Rattle.tile_layout.proofs.grid.Grid.rect.Goals as goal

pub returns-clause-value : goal.returns-clause-value
unfolding cell_rect
returns-clause-value c =
    let level = shown_grid c.args.self.now in
    let below : c.args.column < cells_across level =
    omega (arith, c.requires.column, c.args.self.now.across.in_range.cover) in
    let column : number_of level c.args.column c.args.row % cells_across level ≡ c.args.column =
    mod-mul-add c.args.row (cells_across level) c.args.column below in
    let row : number_of level c.args.column c.args.row / cells_across level ≡ c.args.row =
    div-mul-add c.args.row (cells_across level) c.args.column below in
    rw (
      column,
      row,
      c.part-x.ensures.count,
      c.part-y.ensures.count,
      c.part-x.ensures.first,
      c.part-y.ensures.first,
    ) refl
