-- In a modelled world, a tile with the key belongs to the cell.
use Rattle.std.proofs.Common.{◌≡◌, ◌∙◌, sym, ap, subst}
use Rattle.std.specs.List.{All}
use Rattle.tiff_format.specs.declared.cut.Cut.{Cut}
use Rattle.tile_store.specs.Lawful.{FitsCut}
use Rattle.tile_source.specs.Pass.{PassState}
use Rattle.pinned_tiles.specs.Cell.{HasFirst}
use Rattle.tile_source.proofs.VisitLemmas.{told_stands}
use Rattle.tile_source.proofs.source.TileSource.is_latest.Goals as goal

pub returns-clause-told : goal.returns-clause-told
returns-clause-told g c tells first =
    let files = g.T.W.World.files in
    let known = c.args.self.now.picture.now in
    let cell = c.args.cell.now in
    let tiles = c.pass.inside.pinned.recent in
    let cut : c.pass.inside.pinned.cut ≡ known.cut =
    ap (λ (s : PassState). s.pinned.cut) c.pass.view_is
    ∙ (c.args.self.now.pass_of.cut ∙ sym c.args.self.now.under.cut) in
    c.is_latest.ensures.1 (told_stands files known cell tiles tells c.know.ensures.told
    c.requires.cell
    (subst (λ (s : PassState). HasFirst cell.key s.pinned.recent) (sym c.pass.view_is) first)
    (subst (λ (k : Cut). All (FitsCut files k) tiles) cut c.know-2.ensures.recent_cells))
