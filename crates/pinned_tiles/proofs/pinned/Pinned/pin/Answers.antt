-- One more pin was allowed.
use Rattle.std.proofs.Common.{◌∙◌, ap, sym, subst, map, Option, OnSome, IfSome, IsSome}
use Rattle.std.specs.List.{Contains}
use Rattle.micro.specs.Items.{HasKey}
use Rattle.std.specs.Option.{option_map}
use Rattle.shard_gate.specs.Gate.{PinState, OnePinMore, IsTileOf}
use Rattle.pinned_tiles.specs.Pinned.{PinnedState}
use Rattle.pinned_tiles.specs.Pinned.{tile_of_pin, key_in}
use Rattle.pinned_tiles.proofs.PinnedLemmas.{room_for_pin, tile_pinned, held_is}
use Rattle.shard_gate.specs.Given.{Finds}
use Rattle.shard_gate.specs.Calls.{tile_of, VisitsAt}
use Rattle.shard_gate.proofs.SinceLemmas.{purges_none_pin, misses_pin}
use Rattle.pinned_tiles.proofs.pinned.Pinned.pin.Goals as goal

pub pin-requires-clause-room : goal.pin-requires-clause-room
pin-requires-clause-room g c =
    room_for_pin g.W.World.files c.self.inside.cut
    c.self.inside.seat c.self.inside.recent (map tile_of_pin c.self.inside.holds.items)
    (option_map tile_of_pin c.self.inside.hand) c.self.invariant.0
    (ap (λ (p : PinnedState). p.hand) c.self.view_is ∙ c.requires.hand)

pub invariant_of-self : goal.invariant_of-self
invariant_of-self g c = (
  tile_pinned g.W.World.files c.self.inside.cut
      c.self.inside.seat c.pin.new.p c.self.inside.recent
      (map tile_of_pin c.self.inside.holds.items) (option_map tile_of_pin c.self.inside.hand)
      c.in-Ok-Some.pin.tile c.args.key c.args.gate.now.cut c.self.invariant.0
      (ap (λ (p : PinnedState). p.hand) c.self.view_is ∙ c.requires.hand)
      (ap (λ (p : PinnedState). p.cut) c.self.view_is ∙ c.requires.gate.under)
      (subst (λ (o : Option PinState). OnSome o
      (OnePinMore c.args.key c.self.inside.seat c.pin.new.p)) c.in-Ok-Some.field-0-is
      c.in-Ok-Some.ensures.pinned)
      (subst (λ (o : Option PinState). IfSome o
      (λ pin. IsTileOf g.W.World.files c.args.gate.now.cut c.args.key pin.tile))
      c.in-Ok-Some.field-0-is c.in-Ok-Some.ensures.some),
  c.self.invariant.1,
)

pub returns-in-Ok-Some-clause-are : goal.returns-in-Ok-Some-clause-are
returns-in-Ok-Some-clause-are g c = (invariant_of-self g c).0

pub returns-in-Ok-Some-clause-visits : goal.returns-in-Ok-Some-clause-visits
returns-in-Ok-Some-clause-visits g c = rw (← c.self.view_is)
    (purges_none_pin c.args.gate.now c.args.key c.self.inside.seat c.pin.new.p c.pin.result
    c.pin.ensures.visits c.pin.ensures.refused)

pub returns-in-Ok-None-clause-visits : goal.returns-in-Ok-None-clause-visits
returns-in-Ok-None-clause-visits g c = rw (← c.self.view_is)
    (purges_none_pin c.args.gate.now c.args.key c.self.inside.seat c.pin.new.p c.pin.result
    c.pin.ensures.visits c.pin.ensures.refused)

pub returns-in-Err-clause-visits : goal.returns-in-Err-clause-visits
returns-in-Err-clause-visits g c = rw (← c.self.view_is)
    (purges_none_pin c.args.gate.now c.args.key c.self.inside.seat c.pin.new.p c.pin.result
    c.pin.ensures.visits c.pin.ensures.refused)

pub returns-in-Ok-None-clause-held : goal.returns-in-Ok-None-clause-held
returns-in-Ok-None-clause-held g c = λ has.
    let pinned = held_is g.W.World.files c.self.inside.cut c.self.inside.seat c.self.inside.recent
    (map tile_of_pin c.self.inside.holds.items) (option_map tile_of_pin c.self.inside.hand)
    c.args.key c.self.invariant.0
    (subst (λ (p : PinnedState). HasKey key_in c.args.key p.holds) (sym c.self.view_is) has) in
    subst (λ (o : Option PinState). Contains c.self.inside.seat.pins c.args.key → IsSome o)
    c.in-Ok-None.field-0-is c.in-Ok-None.ensures.held pinned

pub returns-in-Ok-None-clause-missed : goal.returns-in-Ok-None-clause-missed
returns-in-Ok-None-clause-missed g c = λ none. rw (← c.self.view_is)
    (misses_pin c.args.gate.now c.args.key c.self.inside.seat c.pin.new.p
    (subst (λ (o : Option PinState). VisitsAt c.args.gate.now c.args.key
    (Finds c.args.key (option_map tile_of o)) c.self.inside.seat c.pin.new.p)
    c.in-Ok-None.field-0-is c.in-Ok-None.ensures.visits))
