use Rattle.std.proofs.Common.{◌≤◌, nat_eq, length, ap, sym, subst, ◌∙◌}
use Rattle.std.specs.List.{IsDistinct}
use Rattle.std.specs.Map.{keys_of}
use Rattle.tile_store.specs.Slots.{AreInSlots}
use Rattle.tile_store.specs.Order.{entries_of}
use Rattle.tile_store.proofs.OrderLemmas.{length-entries, distinct-entries}
use Rattle.tile_store.proofs.LeftLemmas.{in_slots}
use Rattle.tile_store.proofs.order.Order.len.Goals as goal

pub returns-clause-len : goal.returns-clause-len
returns-clause-len g c =
    c.len.ensures.len ∙ sym (length-entries _ _ _ _ _ c.self.invariant.order)
    ∙ ap (λ o. length o.entries) c.self.view_is

pub returns-clause-most : goal.returns-clause-most
returns-clause-most g c =
    let most = subst (λ n. n ≤ c.self.inside.links.places) (sym (length-entries _ _ _ _ _ c.self.invariant.order)) c.len.ensures.most in
    subst (λ o. length o.entries ≤ length o.slots) c.self.view_is
    (subst (λ n. length (entries_of c.self.inside.slots.items c.self.inside.links.order) ≤ n) (sym c.self.invariant.count) most)

pub returns-clause-valid : goal.returns-clause-valid
returns-clause-valid g c =
    subst (λ o. IsDistinct nat_eq (keys_of o.entries)) c.self.view_is
    (distinct-entries _ _ _ _ _ c.self.invariant.order c.len.ensures.distinct)

pub returns-clause-slots : goal.returns-clause-slots
returns-clause-slots g c = subst AreInSlots c.self.view_is (in_slots _ _ _ _ _ _ c.self.invariant)
