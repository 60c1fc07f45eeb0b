-- The record's layout is that of the handle's bytes, so its facts hold of the loaded one.
use Rattle.tile_layout.specs.Cell.{CellsFit}
use Rattle.tile_load.proofs.KnownLayouts.{layout_told, names_cell, cells_fit, is_cell_tile}
use Rattle.tile_load.proofs.KnownLayouts.{no_fault}
use Rattle.tile_load.proofs.loading.load.Goals as goal

pub load_at-requires-clause-cell : goal.load_at-requires-clause-cell
load_at-requires-clause-cell g c =
    names_cell c.args.known.now c.in-Ok.layout.now c.in-Ok.ensures.value _ c.args.cut _ c.requires.cell

pub load_at-requires-clause-fits : goal.load_at-requires-clause-fits
load_at-requires-clause-fits g c =
    cells_fit c.args.known.now c.in-Ok.layout.now c.in-Ok.ensures.value c.args.cut c.requires.fits

pub load_at-requires-clause-layout : goal.load_at-requires-clause-layout
load_at-requires-clause-layout g c =
    layout_told c.args.known.now c.in-Ok.layout.now c.in-Ok.ensures.value _ _
    c.in-Ok.ensures.told c.requires.reads

pub unreachable-requires : goal.unreachable-requires
unreachable-requires g c =
    no_fault c.args.known.now.layout _ (λ layout. CellsFit layout c.args.cut)
    c.in-Err.ensures.value c.requires.fits

pub returns-clause-tile : goal.returns-clause-tile
returns-clause-tile g c =
    is_cell_tile c.args.known.now c.in-Ok.layout.now c.in-Ok.ensures.value c.args.cut _ _
    c.load_at.ensures.tile
