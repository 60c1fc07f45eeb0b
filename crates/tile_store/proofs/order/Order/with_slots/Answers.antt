use Rattle.std.proofs.Common.{refl}
use Rattle.tile_store.proofs.StartLemmas.{none_yet}
use Rattle.tile_store.proofs.order.Order.with_slots.Goals as goal

pub invariant_of-result : goal.invariant_of-result
invariant_of-result g c =
    none_yet _ _ _ _ c.args.slots _ _ c.in_ok-none_yet.ensures c.in_ok-all_free.ensures.items
    c.in_ok-all_free.ensures.room refl c.in_ok-new.ensures c.in_ok-new-2.ensures
