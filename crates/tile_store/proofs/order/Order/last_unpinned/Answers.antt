use Rattle.std.proofs.Common.{◌≡◌, ◌+◌, Some, None, sym, subst, ◌∙◌, arith}
use Rattle.std.specs.Vec.{vec_capacity}
use Rattle.std.proofs.lemmas.Bool.{eqb-true}
use Rattle.std.proofs.lemmas.List.{get_or_default}
use Rattle.tile_store.specs.Leaving.{IsLastUnpinned}
use Rattle.tile_store.specs.Order.{entry_in, entries_of}
use Rattle.tile_store.specs.Keys.{slot_of}
use Rattle.tile_store.proofs.OrderLemmas.{there}
use Rattle.tile_store.proofs.WalkLemmas.{Behind, next_behind, next_in, behind_more, last_unpinned_is}
use Rattle.tile_store.proofs.SlotLemmas.{held_low}
use Rattle.tile_store.proofs.order.Order.last_unpinned.Goals as goal

pub index-requires : goal.index-requires
index-requires g c =
    let s = c.self.inside in
    let slot = c.in_ok-slot.slot in
    let size = c.len-step-end.ensures.len in
    let behind = subst (Behind s.slots.items s.links.order c.behind._step) c.in_ok-slot.was c.behind.invariant in
    let next = next_behind s.slots.items s.links.order c.behind._step slot (omega arith) behind in
    let has = next_in s.slots.items s.links.order c.behind._step slot next in
    let low = held_low s.slots.items s.free.items (vec_capacity s.free) s.keys s.links c.self.invariant.order slot has in
    omega arith

pub returns-then-is_unpinned-clause-last : goal.returns-then-is_unpinned-clause-last
returns-then-is_unpinned-clause-last g c =
    let s = c.self.inside in
    let slot = c.in_ok-slot.slot in
    let size = c.len-step-end.ensures.len in
    let behind = subst (Behind s.slots.items s.links.order c.behind._step) c.in_ok-slot.was c.behind.invariant in
    let next = next_behind s.slots.items s.links.order c.behind._step slot (omega arith) behind in
    let has = next_in s.slots.items s.links.order c.behind._step slot next in
    let low = held_low s.slots.items s.free.items (vec_capacity s.free) s.keys s.links c.self.invariant.order slot has in
    let got = c.index.ensures ∙ get_or_default s.slots.items slot c.index.result.now None low in
    let e = c.in-Some.entry in
    let free = eqb-true e.pins 0 (sym c.is_unpinned.ensures ∙ c.if-is_unpinned.true) in
    let last = last_unpinned_is s.slots.items s.links.order c.behind._step slot e next (sym got ∙ c.in-Some.is) free in
    subst (λ o. IsLastUnpinned c.of.result.key c.of.result.bytes o.entries) c.self.view_is
    (subst (λ k. IsLastUnpinned k c.of.result.bytes (entries_of s.slots.items s.links.order)) (sym c.of.ensures.key)
    (subst (λ b. IsLastUnpinned e.tile.key b (entries_of s.slots.items s.links.order)) (sym c.of.ensures.bytes) last))

pub before-at-requires : goal.before-at-requires
before-at-requires g c =
    let s = c.self.inside in
    let slot = c.in_ok-slot.slot in
    let size = c.len-step-end.ensures.len in
    let behind = subst (Behind s.slots.items s.links.order c.behind._step) c.in_ok-slot.was c.behind.invariant in
    let next = next_behind s.slots.items s.links.order c.behind._step slot (omega arith) behind in
    next_in s.slots.items s.links.order c.behind._step slot next

pub behind-preserved : goal.behind-preserved
behind-preserved g c =
    let s = c.self.inside in
    let slot = c.in_ok-slot.slot in
    let size = c.len-step-end.ensures.len in
    let behind = subst (Behind s.slots.items s.links.order c.behind._step) c.in_ok-slot.was c.behind.invariant in
    let next = next_behind s.slots.items s.links.order c.behind._step slot (omega arith) behind in
    let has = next_in s.slots.items s.links.order c.behind._step slot next in
    let low = held_low s.slots.items s.free.items (vec_capacity s.free) s.keys s.links c.self.invariant.order slot has in
    let got = c.index.ensures ∙ get_or_default s.slots.items slot c.index.result.now None low in
    let e = c.in-Some.entry in
    let held = sym c.is_unpinned.ensures ∙ c.if-is_unpinned.false in
    let more = behind_more s.slots.items s.links.order c.behind._step slot e next (sym got ∙ c.in-Some.is) held in
    subst (Behind s.slots.items s.links.order (c.behind._step + 1))
    (sym (c.before-at.ensures next.front next.back next.parts)) more

pub returns-in_default-clause-none : goal.returns-in_default-clause-none
returns-in_default-clause-none g c = λ _.
    let s = c.self.inside in
    let slot = c.in_ok-slot.slot in
    let size = c.len-step-end.ensures.len in
    let behind = subst (Behind s.slots.items s.links.order c.behind._step) c.in_ok-slot.was c.behind.invariant in
    let next = next_behind s.slots.items s.links.order c.behind._step slot (omega arith) behind in
    let has = next_in s.slots.items s.links.order c.behind._step slot next in
    let low = held_low s.slots.items s.free.items (vec_capacity s.free) s.keys s.links c.self.invariant.order slot has in
    let got = c.index.ensures ∙ get_or_default s.slots.items slot c.index.result.now None low in
    let at = there (entry_in s.slots.items slot) (λ e. slot_of e.tile.key s.keys ≡ Some slot)
    (c.self.invariant.order.held slot has) in
    let both : None ≡ Some at.entry = sym c.in_default.is ∙ got ∙ at.is in
    absurd cc
