use Rattle.std.proofs.Common.{◌≡◌, ◌<◌, ◌∷◌, true, Some, IfSome, length, set, ap, sym, subst, ◌∙◌, arith}
use Rattle.std.specs.Vec.{vec_len, vec_capacity}
use Rattle.std.proofs.lemmas.List.{length-set}
use Rattle.tile_store.specs.CachedTile.{entry_at}
use Rattle.tile_store.specs.Links.{linked, is_in, last_of}
use Rattle.tile_store.specs.Order.{entries_of, IsOrder}
use Rattle.tile_store.proofs.OrderLemmas.{length-entries}
use Rattle.tile_store.proofs.EndLemmas.{in_last}
use Rattle.tile_store.proofs.SlotLemmas.{missing_by, free_key}
use Rattle.tile_store.proofs.FillLemmas.{filled, filled_entries}
use Rattle.tile_store.proofs.LeftLemmas.{last_told}
use Rattle.tile_store.proofs.order.Order.put.Goals as goal

pub returns-in_default : goal.returns-in_default
returns-in_default g c =
    let s = c.self.inside in
    let all = c.self.invariant.order.shared in
    let size = length-entries s.slots.items s.free.items (vec_capacity s.free) s.keys s.links c.self.invariant.order in
    let room = subst (λ o. length o.entries < length o.slots) (sym c.self.view_is) c.requires.free in
    let count = c.self.invariant.count in
    let empty = c.in_default.ensures.cases.0 in
    let len : length s.free.items ≡ vec_len s.free = sym s.free.ok.0 in
    absurd (omega arith)

pub put-requires-clause-missing : goal.put-requires-clause-missing
put-requires-clause-missing g c =
    let s = c.self.inside in
    let key = c.key.result in
    missing_by s.slots.items s.free.items (vec_capacity s.free) s.keys s.links c.self.invariant.order key
    (ap (λ o. entry_at key o.entries) c.self.view_is ∙ ap (λ k. entry_at k c.args.self.now.entries) c.key.ensures
    ∙ c.requires.absent)

pub put-requires-clause-low : goal.put-requires-clause-low
put-requires-clause-low g c =
    let slot = c.in-Some.slot in
    subst (λ n. slot < n) (sym c.self.invariant.count) (c.self.invariant.order.low slot
    (subst (λ l. is_in slot l ≡ true) (sym c.in-Some.ensures.items) (in_last slot c.pop.new.self.items)))

pub put-requires-clause-free : goal.put-requires-clause-free
put-requires-clause-free g c =
    let s = c.self.inside in
    let slot = c.in-Some.slot in
    free_key s.slots.items s.free.items (vec_capacity s.free) s.keys s.links c.self.invariant.order c.self.invariant.apart
    slot (c.self.invariant.order.empty slot
    (subst (λ l. is_in slot l ≡ true) (sym c.in-Some.ensures.items) (in_last slot c.pop.new.self.items)))

pub index_mut-requires : goal.index_mut-requires
index_mut-requires g c =
    let slot = c.in-Some.slot in
    let low = c.self.invariant.order.low slot
    (subst (λ l. is_in slot l ≡ true) (sym c.in-Some.ensures.items) (in_last slot c.pop.new.self.items)) in
    let places = c.self.invariant.order.places in
    omega arith

pub push_front-requires-clause-place : goal.push_front-requires-clause-place
push_front-requires-clause-place g c =
    let slot = c.in-Some.slot in
    c.self.invariant.order.low slot
    (subst (λ l. is_in slot l ≡ true) (sym c.in-Some.ensures.items) (in_last slot c.pop.new.self.items))

pub invariant_of-self-2 : goal.invariant_of-self-2
invariant_of-self-2 g c =
    let s = c.self.inside in
    let e = c.args.entry in
    let key = c.key.result in
    let slot = c.in-Some.slot in
    let missing = missing_by s.slots.items s.free.items (vec_capacity s.free) s.keys s.links c.self.invariant.order key
    (ap (λ o. entry_at key o.entries) c.self.view_is ∙ ap (λ k. entry_at k c.args.self.now.entries) c.key.ensures
    ∙ c.requires.absent) in
    let slots = set s.slots.items slot (Some e) in
    let new = filled s.slots.items s.free.items (vec_capacity s.free) s.keys s.links c.self.invariant.order key slot
    c.pop.new.self.items c.in-Some.ensures.items missing e (sym c.key.ensures) c.put.new.self
    (λ k. c.put.ensures.slots k) in
    record {
      order = subst (λ l. IsOrder slots c.pop.new.self.items (vec_capacity c.pop.new.self) c.put.new.self l) (sym c.push_front.ensures)
          (subst (λ r. IsOrder slots c.pop.new.self.items r c.put.new.self (linked (slot ∷ s.links.order) s.links.places))
          (sym c.in-Some.ensures.capacity) new);
      count = ap length c.put.ensures.keys ∙ length-set s.keys slot (Some key) ∙ c.self.invariant.count
          ∙ sym (ap (λ l. l.places) c.push_front.ensures);
      apart = c.put.ensures.apart;
      told_low = omega (arith, c.pop.new.self.ok.0);
    }

pub returns-clause-entries : goal.returns-clause-entries
returns-clause-entries g c =
    let s = c.self.inside in
    let e = c.args.entry in
    let key = c.key.result in
    let slot = c.in-Some.slot in
    let missing = missing_by s.slots.items s.free.items (vec_capacity s.free) s.keys s.links c.self.invariant.order key
    (ap (λ o. entry_at key o.entries) c.self.view_is ∙ ap (λ k. entry_at k c.args.self.now.entries) c.key.ensures
    ∙ c.requires.absent) in
    ap (λ l. entries_of (set s.slots.items slot (Some e)) l.order) c.push_front.ensures
    ∙ filled_entries s.slots.items s.free.items (vec_capacity s.free) s.keys s.links c.self.invariant.order key slot
    c.pop.new.self.items c.in-Some.ensures.items missing e (sym c.key.ensures) c.put.new.self
    (λ k. c.put.ensures.slots k)
    ∙ ap (λ l. (e.tile.key, e) ∷ l) (ap (λ o. o.entries) c.self.view_is)

pub returns-clause-last : goal.returns-clause-last
returns-clause-last g c =
    let s = c.self.inside in
    let slot = c.in-Some.slot in
    subst (λ l. IfSome (last_of l) (λ q. slot ≡ q)) (ap (λ o. o.left) c.self.view_is)
    (last_told s.told slot c.pop.new.self.items s.free.items c.in-Some.ensures.items c.self.invariant.told_low)
