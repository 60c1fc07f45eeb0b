-- The tile that is found is one of the microcache.
use Rattle.std.proofs.Common.{sym, ap, subst, Option, IfSome}
use Rattle.std.specs.Option.{option_copied}
use Rattle.micro.specs.Items.{has_key}
use Rattle.tiff_format.specs.declared.cut.Cut.{Cut}
use Rattle.tile_store.specs.Tile.{CachedTile}
use Rattle.tile_store.specs.Lawful.{FitsCut}
use Rattle.pinned_tiles.specs.Pinned.{PinnedState}
use Rattle.pinned_tiles.specs.Pinned.{key_in}
use Rattle.pinned_tiles.proofs.PinnedLemmas.{found_cell}
use Rattle.pinned_tiles.proofs.pinned.Pinned.tile_of.Goals as goal

pub returns-in-Some-clause-fits : goal.returns-in-Some-clause-fits
returns-in-Some-clause-fits g c =
    let P = FitsCut g.W.World.files c.self.inside.cut in
    let found : IfSome (option_copied c.peek.result) P =
    subst (λ (o : Option CachedTile). IfSome o P) (sym c.peek.ensures.value)
    (found_cell P (has_key key_in c.args.cell.now.key) c.self.inside.recent
    c.self.invariant.0.recent_cells) in
    let one : P c.in-Some.recent.now = subst (λ o. IfSome (option_copied o) P) c.in-Some.is found in
    subst (λ (t : CachedTile). FitsCut g.W.World.files c.args.self.now.cut t)
    (sym c.tile-in-Some.ensures.value)
    (subst (λ (cut : Cut). FitsCut g.W.World.files cut c.in-Some.recent.now)
    (ap (λ (p : PinnedState). p.cut) c.self.view_is) one)
