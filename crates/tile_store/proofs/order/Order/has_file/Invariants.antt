use Rattle.tile_store.proofs.MarkLemmas.{OtherBelow}
use Rattle.tile_store.proofs.order.Order.has_file.Given as goal

abbrev pub invariant-slots : goal.invariant-slots
invariant-slots g l = OtherBelow l.file l.self-inside.slots.items l.slot
