-- The pins are those of the tiles.
use Rattle.std.proofs.Common.{◌∙◌, ap, map, sym}
use Rattle.std.specs.Option.{option_map}
use Rattle.pinned_tiles.specs.Pinned.{PinnedState}
use Rattle.pinned_tiles.specs.Pinned.{tile_of_pin}
use Rattle.pinned_tiles.proofs.PinnedLemmas.{no_pins}
use Rattle.pinned_tiles.proofs.pinned.Pinned.know_none.Goals as goal

pub returns : goal.returns
returns g c recent holds hand =
    sym (ap (λ (p : PinnedState). p.seat.pins) c.self.view_is)
    ∙ no_pins g.W.World.files c.self.inside.cut
    c.self.inside.seat c.self.inside.recent (map tile_of_pin c.self.inside.holds.items)
    (option_map tile_of_pin c.self.inside.hand) c.self.invariant.0
    (ap (λ (p : PinnedState). p.recent) c.self.view_is ∙ recent)
    (ap (λ (p : PinnedState). p.holds) c.self.view_is ∙ holds)
    (ap (λ (p : PinnedState). p.hand) c.self.view_is ∙ hand)
