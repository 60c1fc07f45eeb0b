use Rattle.tile_store.proofs.WalkLemmas.{Behind}
use Rattle.tile_store.proofs.order.Order.last_unpinned.Given as goal

abbrev pub invariant-behind : goal.invariant-behind
invariant-behind g l = Behind l.self-inside.slots.items l.self-inside.links.order l._step l.at
