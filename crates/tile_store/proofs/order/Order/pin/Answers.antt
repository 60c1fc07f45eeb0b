use Rattle.std.proofs.Common.{◌+◌, ◌<◌, ◌^◌, ◌∷◌, Some, IfSome, nat_eq, set, ap, sym, subst, ◌∙◌, arith}
use Rattle.std.specs.Map.{remove_entry}
use Rattle.std.specs.Option.{option_map_or}
use Rattle.std.specs.Vec.{vec_capacity}
use Rattle.tile_store.specs.CachedTile.{entry_at, unpinned_bytes}
use Rattle.tile_store.specs.Order.{entries_of, IsOrder}
use Rattle.tile_store.proofs.PinLemmas.{pinned_first-found}
use Rattle.tile_store.proofs.OrderLemmas.{entry_by_none}
use Rattle.tile_store.proofs.SlotLemmas.{found_low, to_front, written, written_first, at_found}
use Rattle.tile_store.proofs.order.Order.pin.Goals as goal

pub returns-in_default-clause-entries : goal.returns-in_default-clause-entries
returns-in_default-clause-entries g c =
    let key = c.args.key in
    let none = sym (ap (λ o. entry_at key o.entries) c.self.view_is)
    ∙ entry_by_none _ _ _ _ _ c.self.invariant.order key (sym c.in_default.ensures.value) in
    rw none

pub returns-in_default-clause-bytes : goal.returns-in_default-clause-bytes
returns-in_default-clause-bytes g c =
    let key = c.args.key in
    let none = sym (ap (λ o. entry_at key o.entries) c.self.view_is)
    ∙ entry_by_none _ _ _ _ _ c.self.invariant.order key (sym c.in_default.ensures.value) in
    rw none

pub index_mut-requires : goal.index_mut-requires
index_mut-requires g c =
    let low = found_low _ _ _ _ _ c.self.invariant.order c.args.key c.in-Some.slot (sym c.in-Some.ensures.value) in
    omega arith

pub returns-in_default-index_mut-clause-entries : goal.returns-in_default-index_mut-clause-entries
returns-in_default-index_mut-clause-entries g c =
    let s = c.self.inside in
    let key = c.args.key in
    let p = c.in-Some.slot in
    let found = sym c.in-Some.ensures.value in
    let at = at_found s.slots.items s.free.items _ s.keys s.links c.self.invariant.order key p found
    c.args.self.now.entries (ap (λ o. o.entries) c.self.view_is) c.index_mut.result.now c.index_mut.ensures.value in
    absurd (at.some c.in_default-index_mut.is)

pub returns-in_default-index_mut-clause-bytes : goal.returns-in_default-index_mut-clause-bytes
returns-in_default-index_mut-clause-bytes g c =
    let s = c.self.inside in
    let key = c.args.key in
    let p = c.in-Some.slot in
    let found = sym c.in-Some.ensures.value in
    let at = at_found s.slots.items s.free.items _ s.keys s.links c.self.invariant.order key p found
    c.args.self.now.entries (ap (λ o. o.entries) c.self.view_is) c.index_mut.result.now c.index_mut.ensures.value in
    absurd (at.some c.in_default-index_mut.is)

pub pin-requires : goal.pin-requires
pin-requires g c =
    let s = c.self.inside in
    let key = c.args.key in
    let p = c.in-Some.slot in
    let found = sym c.in-Some.ensures.value in
    let at = at_found s.slots.items s.free.items _ s.keys s.links c.self.invariant.order key p found
    c.args.self.now.entries (ap (λ o. o.entries) c.self.view_is) c.index_mut.result.now c.index_mut.ensures.value in
    subst (λ o. IfSome o (λ e. e.pins + 1 < 2 ^ 32)) (at.found_is ∙ c.in-Some-index_mut.is) c.requires

pub to_front-requires : goal.to_front-requires
to_front-requires g c =
    c.self.invariant.order.indexed c.args.key c.in-Some.slot (sym c.in-Some.ensures.value)

pub invariant_of-self-2 : goal.invariant_of-self-2
invariant_of-self-2 g c =
    let s = c.self.inside in
    let key = c.args.key in
    let p = c.in-Some.slot in
    let found = sym c.in-Some.ensures.value in
    let at = at_found s.slots.items s.free.items _ s.keys s.links c.self.invariant.order key p found
    c.args.self.now.entries (ap (λ o. o.entries) c.self.view_is) c.index_mut.result.now c.index_mut.ensures.value in
    let w = c.pin.new.self in
    let same_key = ap (λ x. x.tile.key) c.pin.ensures ∙ at.key_is c.in-Some-index_mut.entry c.in-Some-index_mut.is in
    let new = written s.slots.items s.free.items _ s.keys s.links c.self.invariant.order key p found w same_key in
    record {
      order = subst (λ l. IsOrder (set s.slots.items p (Some w)) s.free.items (vec_capacity s.free) s.keys l) (sym c.to_front.ensures)
          (to_front (set s.slots.items p (Some w)) s.free.items _ s.keys s.links new p
          (c.self.invariant.order.indexed key p found));
      count = c.self.invariant.count ∙ sym (ap (λ l. l.places) c.to_front.ensures);
      apart = c.self.invariant.apart;
      told_low = c.self.invariant.told_low;
    }

pub returns-clause-entries : goal.returns-clause-entries
returns-clause-entries g c =
    let s = c.self.inside in
    let key = c.args.key in
    let p = c.in-Some.slot in
    let found = sym c.in-Some.ensures.value in
    let at = at_found s.slots.items s.free.items _ s.keys s.links c.self.invariant.order key p found
    c.args.self.now.entries (ap (λ o. o.entries) c.self.view_is) c.index_mut.result.now c.index_mut.ensures.value in
    let w = c.pin.new.self in
    let e = c.in-Some-index_mut.entry in
    let old = c.args.self.now.entries in
    let same_key = ap (λ x. x.tile.key) c.pin.ensures ∙ at.key_is e c.in-Some-index_mut.is in
    ap (λ l. entries_of (set s.slots.items p (Some w)) l.order) c.to_front.ensures
    ∙ written_first s.slots.items s.free.items _ s.keys s.links c.self.invariant.order key p found w same_key
    c.len.ensures.distinct
    ∙ ap (λ l. (key, w) ∷ remove_entry (nat_eq key) l) (ap (λ o. o.entries) c.self.view_is)
    ∙ ap (λ x. (key, x) ∷ remove_entry (nat_eq key) old) c.pin.ensures
    ∙ sym (pinned_first-found key old e (at.found_is ∙ c.in-Some-index_mut.is))

pub returns-clause-bytes : goal.returns-clause-bytes
returns-clause-bytes g c =
    let s = c.self.inside in
    let key = c.args.key in
    let p = c.in-Some.slot in
    let found = sym c.in-Some.ensures.value in
    let at = at_found s.slots.items s.free.items _ s.keys s.links c.self.invariant.order key p found
    c.args.self.now.entries (ap (λ o. o.entries) c.self.view_is) c.index_mut.result.now c.index_mut.ensures.value in
    c.unpinned_bytes-bytes.ensures.value
    ∙ sym (ap (λ o. option_map_or unpinned_bytes o 0) (at.found_is ∙ c.in-Some-index_mut.is))
