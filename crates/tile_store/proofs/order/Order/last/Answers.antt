use Rattle.std.proofs.Common.{◌≡◌, Some, None, ap, sym, ◌∙◌, arith}
use Rattle.std.proofs.lemmas.List.{get_or_default}
use Rattle.tile_store.specs.Leaving.{last_entry}
use Rattle.tile_store.specs.Keys.{slot_of}
use Rattle.tile_store.proofs.OrderLemmas.{there}
use Rattle.tile_store.proofs.SlotLemmas.{held_low}
use Rattle.tile_store.proofs.WalkLemmas.{none_last, last_shown, last_in}
use Rattle.tile_store.proofs.order.Order.last.Goals as goal

pub index-requires : goal.index-requires
index-requires g c =
    let s = c.self.inside in
    let low = held_low s.slots.items s.free.items _ s.keys s.links c.self.invariant.order c.in-Some.slot
    (last_in s.links.order c.in-Some.slot (sym c.in-Some.ensures)) in
    omega arith

pub returns-in-Some : goal.returns-in-Some
returns-in-Some g c =
    let s = c.self.inside in
    let p = c.in-Some.slot in
    let has = last_in s.links.order p (sym c.in-Some.ensures) in
    let low = held_low s.slots.items s.free.items _ s.keys s.links c.self.invariant.order p has in
    let slot_is = c.index.ensures ∙ get_or_default s.slots.items p c.index.result.now None low in
    last_shown s.slots.items s.links.order p c.as_ref.result (λ b. b.now) (sym c.in-Some.ensures)
    (c.as_ref.ensures.value ∙ slot_is)
    (there _ (λ e. slot_of e.tile.key s.keys ≡ Some p) (c.self.invariant.order.held p has))
    ∙ ap (λ o. last_entry o.entries) c.self.view_is

pub returns-in-None : goal.returns-in-None
returns-in-None g c =
    sym (none_last c.self.inside.slots.items c.self.inside.links.order (sym c.in-None.ensures))
    ∙ ap (λ o. last_entry o.entries) c.self.view_is
