use Rattle.std.proofs.Common.{◌≡◌, ◌/◌, ◌%◌, ap, ◌∙◌, arith}
use Rattle.std.proofs.lemmas.Nat.{div-add-mod'}
use Rattle.tile_layout.specs.Cell.{cell_rect, cells_across, number_of}
use Rattle.tile_layout.specs.Grid.{shown_grid}
use Rattle.tile_layout.proofs.grid.Grid.cell_rect.Goals as goal

pub returns-clause-value : goal.returns-clause-value
returns-clause-value c =
    let level = shown_grid c.args.self.now in
    let cells = c.args.self.now.across.cells in
    let index = c.args.index in
    let is : number_of level (index % cells) (index / cells) ≡ index =
    rw (← c.args.self.now.across.in_range.cover) (div-add-mod' index cells) in
    c.rect.ensures.value ∙ ap (cell_rect level) is
