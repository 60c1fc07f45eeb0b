use Rattle.std.proofs.Common.{◌≡◌, IsSomeAnd, nat_eq, ◌≤◌, ap, sym, subst, refl, ◌∙◌, arith}
use Rattle.std.specs.Map.{set_value}
use Rattle.tile_store.specs.CachedTile.{entry_at, unpinned_at, unpinned_bytes}
use Rattle.tile_store.specs.Changes.{unpinned_once, one_less}
use Rattle.tile_store.proofs.PinLemmas.{unpinned_at-unpinned_once}
use Rattle.tile_store.proofs.OrderLemmas.{entry_by_none}
use Rattle.tile_store.proofs.SlotLemmas.{found_low, written, written_there, at_found}
use Rattle.tile_store.proofs.order.Order.unpin.Goals as goal

pub returns-in_default-clause-entries : goal.returns-in_default-clause-entries
returns-in_default-clause-entries g c =
    let key = c.args.key in
    let none = sym (ap (λ o. entry_at key o.entries) c.self.view_is)
    ∙ entry_by_none _ _ _ _ _ c.self.invariant.order key (sym c.in_default.ensures.value) in
    rw none

pub index_mut-requires : goal.index_mut-requires
index_mut-requires g c =
    let low = found_low _ _ _ _ _ c.self.invariant.order c.args.key c.in-Some.slot (sym c.in-Some.ensures.value) in
    omega arith

pub returns-in_default-index_mut-clause-entries : goal.returns-in_default-index_mut-clause-entries
returns-in_default-index_mut-clause-entries g c =
    let s = c.self.inside in
    let key = c.args.key in
    let p = c.in-Some.slot in
    let found = sym c.in-Some.ensures.value in
    let at = at_found s.slots.items s.free.items _ s.keys s.links c.self.invariant.order key p found
    c.args.self.now.entries (ap (λ o. o.entries) c.self.view_is) c.index_mut.result.now c.index_mut.ensures.value in
    absurd (at.some c.in_default-index_mut.is)

pub unpin-requires : goal.unpin-requires
unpin-requires g c =
    let s = c.self.inside in
    let key = c.args.key in
    let p = c.in-Some.slot in
    let found = sym c.in-Some.ensures.value in
    let at = at_found s.slots.items s.free.items _ s.keys s.links c.self.invariant.order key p found
    c.args.self.now.entries (ap (λ o. o.entries) c.self.view_is) c.index_mut.result.now c.index_mut.ensures.value in
    subst (λ o. IsSomeAnd o (λ e. 1 ≤ e.pins)) (at.found_is ∙ c.in-Some-index_mut.is) c.requires

pub invariant_of-self-2 : goal.invariant_of-self-2
invariant_of-self-2 g c =
    let s = c.self.inside in
    let key = c.args.key in
    let p = c.in-Some.slot in
    let found = sym c.in-Some.ensures.value in
    let at = at_found s.slots.items s.free.items _ s.keys s.links c.self.invariant.order key p found
    c.args.self.now.entries (ap (λ o. o.entries) c.self.view_is) c.index_mut.result.now c.index_mut.ensures.value in
    let same_key = ap (λ x. x.tile.key) c.unpin.ensures ∙ at.key_is c.in-Some-index_mut.entry c.in-Some-index_mut.is in
    record {
      order = written s.slots.items s.free.items _ s.keys s.links c.self.invariant.order key p found c.unpin.new.self same_key;
      count = c.self.invariant.count;
      apart = c.self.invariant.apart;
      told_low = c.self.invariant.told_low;
    }

pub returns-clause-entries : goal.returns-clause-entries
returns-clause-entries g c =
    let s = c.self.inside in
    let key = c.args.key in
    let p = c.in-Some.slot in
    let found = sym c.in-Some.ensures.value in
    let at = at_found s.slots.items s.free.items _ s.keys s.links c.self.invariant.order key p found
    c.args.self.now.entries (ap (λ o. o.entries) c.self.view_is) c.index_mut.result.now c.index_mut.ensures.value in
    let w = c.unpin.new.self in
    let e = c.in-Some-index_mut.entry in
    let old = c.args.self.now.entries in
    let same_key = ap (λ x. x.tile.key) c.unpin.ensures ∙ at.key_is e c.in-Some-index_mut.is in
    let once : unpinned_once key old ≡ set_value (nat_eq key) old (one_less e) =
    rw (at.found_is ∙ c.in-Some-index_mut.is) refl in
    written_there s.slots.items s.free.items _ s.keys s.links c.self.invariant.order key p found w same_key
    c.len.ensures.distinct
    ∙ ap (λ l. set_value (nat_eq key) l w) (ap (λ o. o.entries) c.self.view_is)
    ∙ ap (set_value (nat_eq key) old) c.unpin.ensures ∙ sym once

pub returns-clause-bytes : goal.returns-clause-bytes
returns-clause-bytes g c =
    let s = c.self.inside in
    let key = c.args.key in
    let p = c.in-Some.slot in
    let found = sym c.in-Some.ensures.value in
    let at = at_found s.slots.items s.free.items _ s.keys s.links c.self.invariant.order key p found
    c.args.self.now.entries (ap (λ o. o.entries) c.self.view_is) c.index_mut.result.now c.index_mut.ensures.value in
    let e = c.in-Some-index_mut.entry in
    let old = c.args.self.now.entries in
    c.unpinned_bytes.ensures.value ∙ ap unpinned_bytes c.unpin.ensures
    ∙ sym (ap (unpinned_at key) (returns-clause-entries g c)
    ∙ unpinned_at-unpinned_once key old e (at.found_is ∙ c.in-Some-index_mut.is))
