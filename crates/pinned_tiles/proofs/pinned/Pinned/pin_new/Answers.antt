-- The new pin was allowed.
use Rattle.std.proofs.Common.{◌∙◌, ap, map}
use Rattle.std.specs.Option.{option_map}
use Rattle.pinned_tiles.specs.Pinned.{PinnedState}
use Rattle.pinned_tiles.specs.Pinned.{tile_of_pin}
use Rattle.pinned_tiles.proofs.PinnedLemmas.{room_for_pin, tile_pinned}
use Rattle.shard_gate.proofs.SinceLemmas.{purges_none_pin_new}
use Rattle.pinned_tiles.proofs.pinned.Pinned.pin_new.Goals as goal

pub pin_new-requires-clause-room : goal.pin_new-requires-clause-room
pin_new-requires-clause-room g c =
    room_for_pin g.W.World.files c.self.inside.cut
    c.self.inside.seat c.self.inside.recent (map tile_of_pin c.self.inside.holds.items)
    (option_map tile_of_pin c.self.inside.hand) c.self.invariant.0
    (ap (λ (p : PinnedState). p.hand) c.self.view_is ∙ c.requires.hand)

pub invariant_of-self : goal.invariant_of-self
invariant_of-self g c = (
  tile_pinned g.W.World.files c.self.inside.cut
      c.self.inside.seat c.pin_new.new.p c.self.inside.recent
      (map tile_of_pin c.self.inside.holds.items) (option_map tile_of_pin c.self.inside.hand)
      c.in-Ok.pin.tile c.args.tile.key c.args.gate.now.cut c.self.invariant.0
      (ap (λ (p : PinnedState). p.hand) c.self.view_is ∙ c.requires.hand)
      (ap (λ (p : PinnedState). p.cut) c.self.view_is ∙ c.requires.gate.under)
      c.in-Ok.ensures.pinned c.in-Ok.ensures.ok,
  c.self.invariant.1,
)

pub returns-in-Ok-clause-are : goal.returns-in-Ok-clause-are
returns-in-Ok-clause-are g c = (invariant_of-self g c).0

pub returns-in-Ok-clause-visits : goal.returns-in-Ok-clause-visits
returns-in-Ok-clause-visits g c = rw (← c.self.view_is)
    (purges_none_pin_new c.args.gate.now c.args.tile c.self.inside.seat c.pin_new.new.p
    c.pin_new.result c.pin_new.ensures.visits c.pin_new.ensures.refused)

pub returns-in-Err-NoMemory-clause-visits : goal.returns-in-Err-NoMemory-clause-visits
returns-in-Err-NoMemory-clause-visits g c = rw (← c.self.view_is)
    (purges_none_pin_new c.args.gate.now c.args.tile c.self.inside.seat c.pin_new.new.p
    c.pin_new.result c.pin_new.ensures.visits c.pin_new.ensures.refused)

pub returns-clause-visits : goal.returns-clause-visits
returns-clause-visits g c = rw (← c.self.view_is)
    (purges_none_pin_new c.args.gate.now c.args.tile c.self.inside.seat c.pin_new.new.p
    c.pin_new.result c.pin_new.ensures.visits c.pin_new.ensures.refused)
