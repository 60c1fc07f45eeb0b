use Rattle.std.proofs.Common.{◌≡◌, ◌<◌, Some, length, slice_index, ap, sym, subst, ◌∙◌}
use Rattle.std.proofs.lemmas.List.{get_or_default}
use Rattle.tile_store.specs.Keys.{IsBefore, slot_of}
use Rattle.tile_store.proofs.KeyLemmas.{low_key, slot_by}
use Rattle.tile_store.proofs.ChainLemmas.{missing, found}
use Rattle.tile_store.proofs.keys.Keys.find.Goals as goal

pub returns-then-slot-self-clause-value : goal.returns-then-slot-self-clause-value
returns-then-slot-self-clause-value c =
    let s = c.self.inside in
    let key = c.args.key in
    let node = c.before-2.result in
    let low_node = subst (λ l. node < length l) c.deref-2.ensures.value c.before-2.ensures.low in
    let stands = subst (λ l. IsBefore s.keys.items l s.slots key node) c.deref-2.ensures.value
    (subst (λ l. IsBefore l c.deref-2.result.now s.slots key node) c.deref.ensures.value c.before-2.ensures.before) in
    let got = c.index-slot.ensures ∙ get_or_default s.next.items node _ 0 low_node in
    sym (missing s.keys.items s.next.items s.slots c.self.invariant key node stands
    (sym got ∙ c.if-slot-self.true)) ∙ ap (slot_of key) c.self.view_is

pub returns-else-slot-self-clause-value : goal.returns-else-slot-self-clause-value
returns-else-slot-self-clause-value c =
    let s = c.self.inside in
    let key = c.args.key in
    let node = c.before-2.result in
    let low_node = subst (λ l. node < length l) c.deref-2.ensures.value c.before-2.ensures.low in
    let stands = subst (λ l. IsBefore s.keys.items l s.slots key node) c.deref-2.ensures.value
    (subst (λ l. IsBefore l c.deref-2.result.now s.slots key node) c.deref.ensures.value c.before-2.ensures.before) in
    let got = c.index-slot.ensures ∙ get_or_default s.next.items node _ 0 low_node in
    let has = found s.keys.items s.next.items s.slots c.self.invariant key node stands
    (λ (e : slice_index s.next.items node ≡ s.slots). c.if-slot-self.false (got ∙ e)) in
    ap Some got ∙ sym (slot_by s.keys.items c.self.invariant.apart key (slice_index s.next.items node) has)
    ∙ ap (slot_of key) c.self.view_is

pub returns-else-slot-self-clause-low : goal.returns-else-slot-self-clause-low
returns-else-slot-self-clause-low c =
    let s = c.self.inside in
    let key = c.args.key in
    let node = c.before-2.result in
    let low_node = subst (λ l. node < length l) c.deref-2.ensures.value c.before-2.ensures.low in
    let stands = subst (λ l. IsBefore s.keys.items l s.slots key node) c.deref-2.ensures.value
    (subst (λ l. IsBefore l c.deref-2.result.now s.slots key node) c.deref.ensures.value c.before-2.ensures.before) in
    let got = c.index-slot.ensures ∙ get_or_default s.next.items node _ 0 low_node in
    let has = found s.keys.items s.next.items s.slots c.self.invariant key node stands
    (λ (e : slice_index s.next.items node ≡ s.slots). c.if-slot-self.false (got ∙ e)) in
    subst (λ l. c.index-slot.result.now < length l) c.self.view_is
    (subst (λ p. p < length s.keys.items) (sym got)
    (low_key s.keys.items (slice_index s.next.items node) key has))
