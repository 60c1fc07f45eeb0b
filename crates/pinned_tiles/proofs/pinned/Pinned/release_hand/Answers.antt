-- The tile in hand was given back, or is in hand again.
use Rattle.std.proofs.Common.{sym, subst, ◌∙◌, ap, Option, Some, map, List, [], ◌++◌}
use Rattle.std.specs.Option.{option_map, option_to_list}
use Rattle.std.proofs.lemmas.List.{append-nil}
use Rattle.tile_store.specs.Tile.{CachedTile}
use Rattle.shard_gate.specs.Gate.{PinState}
use Rattle.pinned_tiles.specs.Pinned.{ArePinned, pinned_state, tile_of_pin, tiles_in}
use Rattle.pinned_tiles.proofs.PinnedLemmas.{made_is, given_back, same_pins, without_hand}
use Rattle.shard_gate.proofs.SinceLemmas.{purges_none_unpin}
use Rattle.pinned_tiles.proofs.pinned.Pinned.release_hand.Goals as goal

pub unpin-requires-clause-made : goal.unpin-requires-clause-made
unpin-requires-clause-made g c =
    made_is g.W.World.files c.self.inside.cut c.self.inside.seat
    c.self.inside.recent (map tile_of_pin c.self.inside.holds.items) c.in-Some.pin.tile
    (subst (λ (h : Option PinState). ArePinned g.W.World.files (pinned_state c.self.inside.seat
    c.self.inside.cut c.self.inside.recent c.self.inside.holds.items h)
    ) (sym c.take.ensures.value ∙ c.in-Some.is) c.self.invariant.0)

pub invariant_of-self-in-Ok : goal.invariant_of-self-in-Ok
invariant_of-self-in-Ok g c =
    let At = λ (h : Option PinState). ArePinned g.W.World.files (pinned_state c.self.inside.seat
    c.self.inside.cut c.self.inside.recent c.self.inside.holds.items h)
    in (
      subst (λ (h : Option PinState). ArePinned g.W.World.files (pinned_state c.unpin.new.p
          c.self.inside.cut c.self.inside.recent c.self.inside.holds.items h)
          ) (sym c.take.ensures.after)
          (given_back g.W.World.files c.self.inside.cut
          c.self.inside.seat c.unpin.new.p c.self.inside.recent
          (map tile_of_pin c.self.inside.holds.items) c.in-Some.pin.tile
          (subst At (sym c.take.ensures.value ∙ c.in-Some.is) c.self.invariant.0) c.in-Ok.ensures.ok),
      c.self.invariant.1,
    )

pub invariant_of-self-in-Err : goal.invariant_of-self-in-Err
invariant_of-self-in-Err g c =
    let At = λ (h : Option PinState). ArePinned g.W.World.files (pinned_state c.self.inside.seat
    c.self.inside.cut c.self.inside.recent c.self.inside.holds.items h)
    in
    let same = c.in-Err.ensures.err in (
      same_pins g.W.World.files c.self.inside.cut
          c.self.inside.seat c.unpin.new.p c.self.inside.recent
          (map tile_of_pin c.self.inside.holds.items) (Some c.in-Err.field-0.pin.tile)
          (subst At (sym c.take.ensures.value ∙ (c.in-Some.is ∙ ap Some (sym c.in-Err.ensures.back)))
          c.self.invariant.0)
          (record {
            gate = same.gate;
            permits = same.permits;
            pins = same.pins;
            joined = same.joined;
          }),
      c.self.invariant.1,
    )

pub returns-in-Ok-clause-are : goal.returns-in-Ok-clause-are
returns-in-Ok-clause-are g c = (invariant_of-self-in-Ok g c).0

pub returns-in-Ok-clause-part : goal.returns-in-Ok-clause-part
returns-in-Ok-clause-part g c =
    let holds = map tile_of_pin c.self.inside.holds.items in
    let hand = option_map tile_of_pin c.self.inside.hand in (
      option_to_list hand,
      ap (λ (h : Option PinState). (holds ++ (c.self.inside.recent
          ++ option_to_list (option_map tile_of_pin h))) ++ option_to_list hand) c.take.ensures.after
          ∙ (without_hand holds c.self.inside.recent hand ∙ ap tiles_in c.self.view_is),
    )

pub returns-in-Err-clause-part : goal.returns-in-Err-clause-part
returns-in-Err-clause-part g c =
    let At : Option PinState → List CachedTile = λ h. map tile_of_pin c.self.inside.holds.items
    ++ (c.self.inside.recent ++ option_to_list (option_map tile_of_pin h)) in (
      [],
      append-nil (At (Some c.in-Err.field-0.pin))
          ∙ (ap At (sym (sym c.take.ensures.value
          ∙ (c.in-Some.is ∙ ap Some (sym c.in-Err.ensures.back)))) ∙ ap tiles_in c.self.view_is),
    )

pub returns-in-Ok-clause-visits : goal.returns-in-Ok-clause-visits
returns-in-Ok-clause-visits g c = rw (← c.self.view_is)
    (purges_none_unpin c.args.gate.now c.in-Some.pin.tile.key c.self.inside.seat c.unpin.new.p
    c.unpin.result c.unpin.ensures.visits c.unpin.ensures.err)
