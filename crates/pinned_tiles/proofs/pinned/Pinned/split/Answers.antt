-- A pass has few pins.
use Rattle.std.proofs.Common.{ℕ, ◌<◌, sym, ap, subst, map}
use Rattle.std.specs.Option.{option_map}
use Rattle.pinned_tiles.specs.Pinned.{PinnedState}
use Rattle.pinned_tiles.specs.Pinned.{tile_of_pin}
use Rattle.pinned_tiles.proofs.PinnedLemmas.{few_for_split}
use Rattle.pinned_tiles.proofs.pinned.Pinned.split.Goals as goal

pub split-requires-clause-pins : goal.split-requires-clause-pins
split-requires-clause-pins g c =
    few_for_split g.W.World.files c.self.inside.cut
    c.self.inside.seat c.self.inside.recent (map tile_of_pin c.self.inside.holds.items)
    (option_map tile_of_pin c.self.inside.hand) c.self.invariant.0
    (subst (λ (n : ℕ). 1 < n) (sym (ap (λ (p : PinnedState). p.seat.permits) c.self.view_is))
    c.requires.permits)
