use Rattle.std.specs.Option.{option_map_or}
use Rattle.std.proofs.Common.{append-nil}
use Rattle.tile_store.specs.Keys.{slot_of, without_key}
use Rattle.tile_store.proofs.LeftLemmas.{told_end, length-without_key}
use Rattle.std.proofs.Common.{[], ◌∷◌, ◌++◌, length-append, drop, ◌≡◌, None, nat_eq, length, set, ap, sym, subst, ◌∙◌, arith}
use Rattle.std.specs.Map.{remove_entry}
use Rattle.std.specs.Vec.{vec_len, vec_capacity}
use Rattle.tile_store.specs.CachedTile.{entry_at}
use Rattle.tile_store.specs.Links.{linked, without}
use Rattle.tile_store.specs.Order.{entries_of, IsOrder, IsOrdered}
use Rattle.tile_store.proofs.MapLemmas.{remove_entry-none}
use Rattle.tile_store.proofs.OrderLemmas.{entry_by_none}
use Rattle.tile_store.proofs.SlotLemmas.{found_low, removed_entries}
use Rattle.tile_store.proofs.EndLemmas.{some_used}
use Rattle.tile_store.proofs.SlotLemmas.{removed}
use Rattle.tile_store.proofs.order.Order.pop.Goals as goal

pub returns-in_default-clause-entries : goal.returns-in_default-clause-entries
returns-in_default-clause-entries g c =
    let key = c.args.key in
    let es = c.args.self.now.entries in
    let same = ap (λ o. o.entries) c.self.view_is in
    let none = sym (ap (entry_at key) same)
    ∙ entry_by_none _ _ _ _ _ c.self.invariant.order key (sym c.in_default.ensures.value) in
    same ∙ sym (remove_entry-none (nat_eq key) es none)

pub invariant_of-self : goal.invariant_of-self
invariant_of-self g c =
    let s = c.self.inside in
    let same = c.in_default.ensures.keys
    ∙ ap (λ o. option_map_or (λ q. set s.keys q None) o s.keys) (sym c.in_default.ensures.value) in
    subst (λ l. IsOrdered s.slots.items s.free.items (vec_capacity s.free) s.told l s.links) (sym same) c.self.invariant

pub returns-in_default-clause-slots : goal.returns-in_default-clause-slots
returns-in_default-clause-slots g c =
    let s = c.self.inside in
    let key = c.args.key in
    let old = c.args.self.now in
    let missing = sym (ap (λ o. slot_of key o.slots) c.self.view_is) ∙ sym c.in_default.ensures.value in
    record {
      slots = c.in_default.ensures.keys ∙ ap (λ o. without_key key o.slots) c.self.view_is;
      left = ap (λ o. o.left) c.self.view_is ∙ sym (append-nil old.left)
          ∙ ap (λ o. old.left ++ option_map_or (λ q. q ∷ []) o []) (sym missing);
    }

pub returns-clause-slots : goal.returns-clause-slots
returns-clause-slots g c =
    let s = c.self.inside in
    let key = c.args.key in
    let p = c.in-Some.slot in
    let old = c.args.self.now in
    let found = sym (ap (λ o. slot_of key o.slots) c.self.view_is) ∙ sym c.in-Some.ensures.value in
    record {
      slots = c.in-Some.ensures.keys ∙ ap (λ o. without_key key o.slots) c.self.view_is;
      left = ap (drop s.told) c.push_reserved.ensures.items ∙ told_end s.told p s.free.items c.self.invariant.told_low
          ∙ ap (λ o. o.left ++ p ∷ []) c.self.view_is
          ∙ ap (λ o. old.left ++ option_map_or (λ q. q ∷ []) o []) (sym found);
    }

pub index_mut-requires : goal.index_mut-requires
index_mut-requires g c =
    let low = found_low _ _ _ _ _ c.self.invariant.order c.args.key c.in-Some.slot (sym c.in-Some.ensures.value) in
    omega arith

pub push_reserved-requires : goal.push_reserved-requires
push_reserved-requires g c =
    let s = c.self.inside in
    let has = c.self.invariant.order.indexed c.args.key c.in-Some.slot (sym c.in-Some.ensures.value) in
    let some = some_used s.links.order c.in-Some.slot has in
    let all = c.self.invariant.order.shared in
    let noted = c.self.invariant.order.noted in
    let size : length s.free.items ≡ vec_len s.free = sym s.free.ok.0 in
    omega arith

pub remove-requires : goal.remove-requires
remove-requires g c =
    c.self.invariant.order.indexed c.args.key c.in-Some.slot (sym c.in-Some.ensures.value)

pub invariant_of-self-2 : goal.invariant_of-self-2
invariant_of-self-2 g c =
    let s = c.self.inside in
    let p = c.in-Some.slot in
    let slots = set s.slots.items p None in
    let index = c.take.new.self in
    let new = removed s.slots.items s.free.items (vec_capacity s.free) s.keys s.links c.self.invariant.order
    c.args.key p (sym c.in-Some.ensures.value) index (λ k. c.in-Some.ensures.slots k) c.len.ensures.distinct in
    let size = ap length c.push_reserved.ensures.items ∙ length-append s.free.items (p ∷ []) in
    let told = c.self.invariant.told_low in
    record {
      order = subst (λ l. IsOrder slots c.push_reserved.new.self.items (vec_capacity c.push_reserved.new.self) index l)
          (sym c.remove.ensures)
          (subst (λ r. IsOrder slots c.push_reserved.new.self.items r index (linked (without p s.links.order) s.links.places))
          (sym c.push_reserved.ensures.capacity)
          (subst (λ f. IsOrder slots f (vec_capacity s.free) index (linked (without p s.links.order) s.links.places))
          (sym c.push_reserved.ensures.items) new));
      count = ap length c.in-Some.ensures.keys ∙ length-without_key c.args.key s.keys ∙ c.self.invariant.count
          ∙ sym (ap (λ l. l.places) c.remove.ensures);
      apart = c.in-Some.ensures.apart;
      told_low = omega arith;
    }

pub returns-clause-entries : goal.returns-clause-entries
returns-clause-entries g c =
    let s = c.self.inside in
    let p = c.in-Some.slot in
    ap (λ l. entries_of (set s.slots.items p None) l.order) c.remove.ensures
    ∙ removed_entries s.slots.items s.free.items (vec_capacity s.free) s.keys s.links c.self.invariant.order
    c.args.key p (sym c.in-Some.ensures.value) c.take.new.self (λ k. c.in-Some.ensures.slots k)
    c.len.ensures.distinct
    ∙ ap (λ o. remove_entry (nat_eq c.args.key) o.entries) c.self.view_is
