-- In a modelled world, the key alone decides whether it is a hit.
use Rattle.std.proofs.Common.{◌≡◌, ◌∷◌, [], ◌∙◌, sym, subst}
use Rattle.std.specs.List.{All}
use Rattle.tiff_format.specs.declared.cut.Cut.{Cut}
use Rattle.tile_store.specs.Lawful.{FitsCut}
use Rattle.pinned_tiles.specs.Pinned.{IsAskedFor}
use Rattle.tile_source.specs.Call.{Needs}
use Rattle.tile_source.proofs.NeedLemmas.{on_ok, needs_one}
use Rattle.tile_source.proofs.SourceLemmas.{reads_then, reads_brought}
use Rattle.tile_source.proofs.source.TileSource.need_counted.Goals as goal

pub returns-clause-needs : goal.returns-clause-needs
returns-clause-needs g c =
    let files = g.T.W.World.files in
    let cell = c.args.cell.now in
    let old = c.args.self.now.pass.now in
    let mid = c.count.new.self.pass.now in
    let new = c.need_tile.new.self.pass.now in
    let counted = c.count.ensures in
    let cut : old.pinned.cut ≡ c.args.self.now.picture.now.cut =
    c.args.self.now.pass_of.cut ∙ sym c.args.self.now.under.cut in
    on_ok c.need_tile.result (IsAskedFor cell.key mid.pinned.recent new.pinned.recent)
    (Needs files (cell.key ∷ []) old new)
    (λ asked. needs_one files c.args.self.now.picture.now cell old mid new
    c.has.result counted.told c.requires.cell
    (subst (λ (k : Cut). All (FitsCut files k) old.pinned.recent) cut counted.fits)
    counted.recent c.has.ensures counted.low counted.counts c.need_tile.ensures.left.counts asked)
    c.need_tile.ensures.turned

pub returns-clause-left : goal.returns-clause-left
returns-clause-left g c = reads_then c.count.ensures.left (reads_brought c.need_tile.ensures.left)
