-- The seats from the last one down to here are joined.
use Rattle.std.proofs.Common.{◌≡◌, ℕ, ◌<◌, ◌≤◌, length, take, get_or, vec_len}
use Rattle.shard_gate.specs.Seated.{SeatAt}
use Rattle.shard_gate.proofs.ListLemmas.{joined_from}
use Rattle.shard_gate.proofs.seats.join_seats.Given as goal

abbrev pub invariant-left : goal.invariant-left
invariant-left g l = record {
  others : l.others.items ≡ take (length l.others.items) l.fn.others.items;
  seats : l.seats ≡ joined_from (length l.others.items) l.fn.seats l.fn.others.items;
  few : (j : ℕ) (d : SeatAt) → length l.others.items ≤ j → j < length l.seats
      → (get_or l.seats j d).permits ≤ (get_or l.seats j d).shard.passes;
}

abbrev pub decreases-left : goal.decreases-left
decreases-left g l = vec_len l.others
