use Rattle.std.proofs.Common.{◌+◌, ◌<◌, Some, cond, length, nat_eq, set, slice_index, ap, sym, subst, ◌∙◌, arith}
use Rattle.std.proofs.lemmas.List.{get_or_default}
use Rattle.tile_store.specs.Keys.{key_in, slot_of, chain_of, AreChains}
use Rattle.tile_store.proofs.KeyLemmas.{put_slots, put_apart}
use Rattle.tile_store.proofs.RelinkLemmas.{put_chained}
use Rattle.tile_store.proofs.keys.Keys.put.Goals as goal

pub invariant_of-self : goal.invariant_of-self
invariant_of-self c =
    let s = c.self.inside in
    let key = c.args.key in
    let slot = c.args.slot in
    let own = c.chain_of.ensures.value ∙ ap (λ n. chain_of n key) c.chains_for.ensures in
    let nodes = c.self.invariant.nodes in
    let within = c.chain_of.ensures.low in
    let count = c.chains_for.ensures in
    let first = c.index.ensures ∙ get_or_default s.next.items (s.slots + c.chain_of.result) _ 0 (omega arith)
    ∙ ap (λ n. slice_index s.next.items (s.slots + n)) own in
    let missing = ap (slot_of key) c.self.view_is ∙ c.requires.missing in
    let low = subst (λ l. slot < length l) (sym c.self.view_is) c.requires.low in
    let free = ap (λ l. key_in l slot) c.self.view_is ∙ c.requires.free in
    subst (λ n. AreChains (set s.keys.items slot (Some key))
    (set (set s.next.items slot c.index.result.now) (s.slots + n) slot) s.slots) (sym own)
    (put_chained s.keys.items s.next.items s.slots c.self.invariant key slot c.index.result.now missing low free first)

pub returns-clause-slots : goal.returns-clause-slots
returns-clause-slots c = λ k.
    let s = c.self.inside in
    let key = c.args.key in
    let slot = c.args.slot in
    let missing = ap (slot_of key) c.self.view_is ∙ c.requires.missing in
    let low = subst (λ l. slot < length l) (sym c.self.view_is) c.requires.low in
    let free = ap (λ l. key_in l slot) c.self.view_is ∙ c.requires.free in
    put_slots s.keys.items c.self.invariant.apart key slot missing low free k
    ∙ ap (λ l. cond (nat_eq key k) (Some slot) (slot_of k l)) c.self.view_is

pub returns-clause-apart : goal.returns-clause-apart
returns-clause-apart c =
    let s = c.self.inside in
    let key = c.args.key in
    let slot = c.args.slot in
    let missing = ap (slot_of key) c.self.view_is ∙ c.requires.missing in
    let low = subst (λ l. slot < length l) (sym c.self.view_is) c.requires.low in
    put_apart s.keys.items c.self.invariant.apart key slot missing low
