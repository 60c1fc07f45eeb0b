-- In a modelled world, a held tile with the key belongs to the cell.
use Rattle.std.proofs.Common.{subst, sym, refl, ◌∙◌}
use Rattle.std.specs.List.{All}
use Rattle.tiff_format.specs.declared.cut.Cut.{Cut}
use Rattle.tile_store.specs.Lawful.{FitsCut}
use Rattle.tile_source.proofs.UncachedLemmas.{held_found}
use Rattle.tile_source.proofs.source.TileSource.write_held.Goals as goal

pub returns-in-None-clause-told : goal.returns-in-None-clause-told
returns-in-None-clause-told g c = λ tells has.
    let files = g.T.W.World.files in
    let first = c.args.self.now in
    absurd (held_found files first.picture.now c.args.cell.now first.pass.now.pinned.holds tells
    c.know.ensures.told c.requires.cell.of
    (subst (λ (k : Cut). All (FitsCut files k) first.pass.now.pinned.holds)
    (first.pass_of.cut ∙ sym first.under.cut) c.hold_of.ensures.fits) has
    (c.in-None.ensures.none refl))
