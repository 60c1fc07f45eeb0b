use Rattle.tile_store.proofs.ChainLemmas.{Along}
use Rattle.tile_store.proofs.keys.before.Given as goal

abbrev pub invariant-along : goal.invariant-along
invariant-along l = Along l.keys l.next l.slots l.key l.node l._step
