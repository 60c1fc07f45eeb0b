use Rattle.std.proofs.Common.{◌≡◌, ◌*◌, refl}
use Rattle.std.proofs.lemmas.Bool.{leb-true, le-leb}
use Rattle.tile_layout.specs.Grid.{shown_grid}
use Rattle.tile_layout.specs.Cell.{max_cell_bytes}
use Rattle.tile_layout.proofs.CellLemmas.{first_bytes, fits_by_first, first_fits}
use Rattle.tile_layout.proofs.GridLemmas.{has_cells}
use Rattle.tile_layout.proofs.grid.Grid.fits.Goals as goal

pub returns : goal.returns
returns c =
    let grid = c.args.self.now in
    let level = shown_grid grid in
    let channels = c.args.channels in
    let bytes = 2 * c.from.result * c.from-2.result * c.from-3.result in
    let first : bytes ≡ first_bytes channels level =
    rw (c.from.ensures, c.from-2.ensures, c.from-3.ensures, c.min-w.ensures, c.min-h.ensures)
    refl in (
      λ fits. fits_by_first channels level
          (rw (← first) (leb-true bytes max_cell_bytes fits)),
      λ fit. le-leb bytes max_cell_bytes
          (rw first
          (first_fits channels level (has_cells grid) grid.across.in_range.side.low
          grid.down.in_range.side.low fit)),
    )
