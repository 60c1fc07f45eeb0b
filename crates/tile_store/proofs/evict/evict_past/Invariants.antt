use Rattle.std.proofs.Common.{length}
use Rattle.tile_store.specs.Slots.{EmptiesSlots}
use Rattle.tile_store.proofs.WithinLemmas.{Evicting}
use Rattle.tile_store.proofs.evict.evict_past.Given as goal

abbrev pub invariant-evicting : goal.invariant-evicting
invariant-evicting g l =
    Evicting l.share l.left l.fn.order.entries l.order.entries × EmptiesSlots l.fn.order l.order

abbrev pub decreases-evicting : goal.decreases-evicting
decreases-evicting g l = length l.order.entries
