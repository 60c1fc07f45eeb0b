use Rattle.std.proofs.Common.{replicate, None}
use Rattle.std.specs.Vec.{vec_len, vec_capacity}
use Rattle.tile_store.proofs.StartLemmas.{Filling}
use Rattle.tile_store.proofs.keys.none_yet.Given as goal

abbrev pub invariant-loop-slot : goal.invariant-loop-slot
invariant-loop-slot g l = Filling l.made.items (replicate l._slot None) (vec_len l.made) (vec_capacity l.made) l.slots l._slot
