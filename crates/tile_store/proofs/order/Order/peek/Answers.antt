use Rattle.std.proofs.Common.{None, ap, sym, ◌∙◌, arith}
use Rattle.std.proofs.lemmas.List.{get_or_default}
use Rattle.tile_store.specs.CachedTile.{entry_at}
use Rattle.tile_store.proofs.OrderLemmas.{entry_by_some, entry_by_none}
use Rattle.tile_store.proofs.SlotLemmas.{found_low}
use Rattle.tile_store.proofs.order.Order.peek.Goals as goal

pub index-requires : goal.index-requires
index-requires g c =
    let low = found_low _ _ _ _ _ c.self.invariant.order c.args.key c.in-Some.slot (sym c.in-Some.ensures.value) in
    omega arith

pub returns-in-Some : goal.returns-in-Some
returns-in-Some g c =
    let found = sym c.in-Some.ensures.value in
    let low = found_low _ _ _ _ _ c.self.invariant.order c.args.key c.in-Some.slot found in
    c.as_ref.ensures.value ∙ c.index.ensures
    ∙ get_or_default c.self.inside.slots.items c.in-Some.slot c.index.result.now None low
    ∙ sym (entry_by_some _ _ _ _ _ c.self.invariant.order c.args.key c.in-Some.slot found)
    ∙ ap (λ o. entry_at c.args.key o.entries) c.self.view_is

pub returns-in-None : goal.returns-in-None
returns-in-None g c =
    sym (entry_by_none _ _ _ _ _ c.self.invariant.order c.args.key (sym c.in-None.ensures.value))
    ∙ ap (λ o. entry_at c.args.key o.entries) c.self.view_is
