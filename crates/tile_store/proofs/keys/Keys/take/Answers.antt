use Rattle.std.proofs.Common.{◌≡◌, ◌<◌, Some, None, cond, length, nat_eq, set, slice_index, ap, sym, subst, ◌∙◌, arith}
use Rattle.std.specs.Option.{option_map_or}
use Rattle.std.proofs.lemmas.List.{get_or_default}
use Rattle.tile_store.specs.Keys.{IsBefore, AreApart, slot_of, AreChains}
use Rattle.tile_store.proofs.KeyLemmas.{low_key, slot_by, take_slots, take_none, take_apart}
use Rattle.tile_store.proofs.ChainLemmas.{missing, found}
use Rattle.tile_store.proofs.RelinkLemmas.{take_chained}
use Rattle.tile_store.proofs.keys.Keys.take.Goals as goal

pub returns-then-slot-self-clause-value : goal.returns-then-slot-self-clause-value
returns-then-slot-self-clause-value c =
    let s = c.self.inside in
    let key = c.args.key in
    let node = c.before-node.result in
    let low_node = subst (λ l. node < length l) c.deref-2.ensures.value c.before-node.ensures.low in
    let stands = subst (λ l. IsBefore s.keys.items l s.slots key node) c.deref-2.ensures.value
    (subst (λ l. IsBefore l c.deref-2.result.now s.slots key node) c.deref.ensures.value c.before-node.ensures.before) in
    let got = c.index-slot.ensures ∙ get_or_default s.next.items node _ 0 low_node in
    sym (missing s.keys.items s.next.items s.slots c.self.invariant key node stands
    (sym got ∙ c.if-slot-self.true)) ∙ ap (slot_of key) c.self.view_is

pub returns-then-slot-self-clause-keys : goal.returns-then-slot-self-clause-keys
returns-then-slot-self-clause-keys c =
    let now = c.args.self.now in
    sym (ap (λ o. option_map_or (λ slot. set now slot None) o now) (sym (returns-then-slot-self-clause-value c)))

pub returns-then-slot-self-clause-slots : goal.returns-then-slot-self-clause-slots
returns-then-slot-self-clause-slots c = λ k.
    take_none c.args.key k c.args.self.now (sym (returns-then-slot-self-clause-value c))

pub index-requires : goal.index-requires
index-requires c =
    let s = c.self.inside in
    let key = c.args.key in
    let node = c.before-node.result in
    let low_node = subst (λ l. node < length l) c.deref-2.ensures.value c.before-node.ensures.low in
    let stands = subst (λ l. IsBefore s.keys.items l s.slots key node) c.deref-2.ensures.value
    (subst (λ l. IsBefore l c.deref-2.result.now s.slots key node) c.deref.ensures.value c.before-node.ensures.before) in
    let got = c.index-slot.ensures ∙ get_or_default s.next.items node _ 0 low_node in
    let has = found s.keys.items s.next.items s.slots c.self.invariant key node stands
    (λ (e : slice_index s.next.items node ≡ s.slots). c.if-slot-self.false (got ∙ e)) in
    let low = low_key s.keys.items (slice_index s.next.items node) key has in
    let size = c.self.invariant.size in
    let nodes = c.self.invariant.nodes in
    omega arith

pub index_mut-requires-2 : goal.index_mut-requires-2
index_mut-requires-2 c =
    let s = c.self.inside in
    let key = c.args.key in
    let node = c.before-node.result in
    let low_node = subst (λ l. node < length l) c.deref-2.ensures.value c.before-node.ensures.low in
    let stands = subst (λ l. IsBefore s.keys.items l s.slots key node) c.deref-2.ensures.value
    (subst (λ l. IsBefore l c.deref-2.result.now s.slots key node) c.deref.ensures.value c.before-node.ensures.before) in
    let got = c.index-slot.ensures ∙ get_or_default s.next.items node _ 0 low_node in
    let has = found s.keys.items s.next.items s.slots c.self.invariant key node stands
    (λ (e : slice_index s.next.items node ≡ s.slots). c.if-slot-self.false (got ∙ e)) in
    let low = low_key s.keys.items (slice_index s.next.items node) key has in
    omega arith

pub invariant_of-self : goal.invariant_of-self
invariant_of-self c =
    let s = c.self.inside in
    let key = c.args.key in
    let node = c.before-node.result in
    let low_node = subst (λ l. node < length l) c.deref-2.ensures.value c.before-node.ensures.low in
    let stands = subst (λ l. IsBefore s.keys.items l s.slots key node) c.deref-2.ensures.value
    (subst (λ l. IsBefore l c.deref-2.result.now s.slots key node) c.deref.ensures.value c.before-node.ensures.before) in
    let got = c.index-slot.ensures ∙ get_or_default s.next.items node _ 0 low_node in
    let other = λ (e : slice_index s.next.items node ≡ s.slots). c.if-slot-self.false (got ∙ e) in
    let has = found s.keys.items s.next.items s.slots c.self.invariant key node stands other in
    let low = low_key s.keys.items (slice_index s.next.items node) key has in
    let size = c.self.invariant.size in
    let nodes = c.self.invariant.nodes in
    let after = c.index.ensures ∙ get_or_default s.next.items c.index-slot.result.now _ 0 (omega arith)
    ∙ ap (slice_index s.next.items) got in
    subst (λ p. AreChains (set s.keys.items p None) (set s.next.items node c.index.result.now) s.slots) (sym got)
    (take_chained s.keys.items s.next.items s.slots c.self.invariant key node c.index.result.now
    stands other after)

pub returns-clause-value : goal.returns-clause-value
returns-clause-value c =
    let s = c.self.inside in
    let key = c.args.key in
    let node = c.before-node.result in
    let low_node = subst (λ l. node < length l) c.deref-2.ensures.value c.before-node.ensures.low in
    let stands = subst (λ l. IsBefore s.keys.items l s.slots key node) c.deref-2.ensures.value
    (subst (λ l. IsBefore l c.deref-2.result.now s.slots key node) c.deref.ensures.value c.before-node.ensures.before) in
    let got = c.index-slot.ensures ∙ get_or_default s.next.items node _ 0 low_node in
    let has = found s.keys.items s.next.items s.slots c.self.invariant key node stands
    (λ (e : slice_index s.next.items node ≡ s.slots). c.if-slot-self.false (got ∙ e)) in
    ap Some got ∙ sym (slot_by s.keys.items c.self.invariant.apart key (slice_index s.next.items node) has)
    ∙ ap (slot_of key) c.self.view_is

pub returns-clause-low : goal.returns-clause-low
returns-clause-low c =
    let s = c.self.inside in
    let key = c.args.key in
    let node = c.before-node.result in
    let low_node = subst (λ l. node < length l) c.deref-2.ensures.value c.before-node.ensures.low in
    let stands = subst (λ l. IsBefore s.keys.items l s.slots key node) c.deref-2.ensures.value
    (subst (λ l. IsBefore l c.deref-2.result.now s.slots key node) c.deref.ensures.value c.before-node.ensures.before) in
    let got = c.index-slot.ensures ∙ get_or_default s.next.items node _ 0 low_node in
    let has = found s.keys.items s.next.items s.slots c.self.invariant key node stands
    (λ (e : slice_index s.next.items node ≡ s.slots). c.if-slot-self.false (got ∙ e)) in
    subst (λ l. c.index-slot.result.now < length l) c.self.view_is
    (subst (λ p. p < length s.keys.items) (sym got)
    (low_key s.keys.items (slice_index s.next.items node) key has))

pub returns-clause-keys : goal.returns-clause-keys
returns-clause-keys c =
    let s = c.self.inside in
    let p = c.index-slot.result.now in
    let now = c.args.self.now in
    ap (λ l. set l p None) c.self.view_is
    ∙ ap (λ o. option_map_or (λ slot. set now slot None) o now) (returns-clause-value c)

pub returns-clause-slots : goal.returns-clause-slots
returns-clause-slots c = λ k.
    let s = c.self.inside in
    let key = c.args.key in
    let node = c.before-node.result in
    let low_node = subst (λ l. node < length l) c.deref-2.ensures.value c.before-node.ensures.low in
    let stands = subst (λ l. IsBefore s.keys.items l s.slots key node) c.deref-2.ensures.value
    (subst (λ l. IsBefore l c.deref-2.result.now s.slots key node) c.deref.ensures.value c.before-node.ensures.before) in
    let got = c.index-slot.ensures ∙ get_or_default s.next.items node _ 0 low_node in
    let has = found s.keys.items s.next.items s.slots c.self.invariant key node stands
    (λ (e : slice_index s.next.items node ≡ s.slots). c.if-slot-self.false (got ∙ e)) in
    ap (λ p. slot_of k (set s.keys.items p None)) got
    ∙ take_slots s.keys.items c.self.invariant.apart key (slice_index s.next.items node) has k
    ∙ ap (λ l. cond (nat_eq key k) None (slot_of k l)) c.self.view_is

pub returns-clause-apart : goal.returns-clause-apart
returns-clause-apart c =
    let s = c.self.inside in
    let key = c.args.key in
    let node = c.before-node.result in
    let low_node = subst (λ l. node < length l) c.deref-2.ensures.value c.before-node.ensures.low in
    let stands = subst (λ l. IsBefore s.keys.items l s.slots key node) c.deref-2.ensures.value
    (subst (λ l. IsBefore l c.deref-2.result.now s.slots key node) c.deref.ensures.value c.before-node.ensures.before) in
    let got = c.index-slot.ensures ∙ get_or_default s.next.items node _ 0 low_node in
    let has = found s.keys.items s.next.items s.slots c.self.invariant key node stands
    (λ (e : slice_index s.next.items node ≡ s.slots). c.if-slot-self.false (got ∙ e)) in
    subst (λ p. AreApart (set s.keys.items p None)) (sym got)
    (take_apart s.keys.items c.self.invariant.apart key (slice_index s.next.items node) has)
