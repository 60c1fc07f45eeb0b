use Rattle.std.specs.Vec.{vec_len, vec_capacity}
use Rattle.tile_store.specs.Order.{below}
use Rattle.tile_store.proofs.StartLemmas.{Filling}
use Rattle.tile_store.proofs.order.all_free.Given as goal

abbrev pub invariant-loop-slot : goal.invariant-loop-slot
invariant-loop-slot l = Filling l.made.items (below l.slot) (vec_len l.made) (vec_capacity l.made) l.slots l.slot
