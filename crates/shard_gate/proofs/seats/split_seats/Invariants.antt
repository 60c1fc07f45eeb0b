-- Each seat so far has given one permit to a second seat.
use Rattle.std.proofs.Common.{◌≡◌, ◌++◌, ◌≤◌, length, map, take, drop}
use Rattle.std.specs.Prelude.{vec_capacity}
use Rattle.shard_gate.specs.Seated.{kept_seat, new_seat}
use Rattle.shard_gate.proofs.seats.split_seats.Given as goal

abbrev pub invariant-loop-k : goal.invariant-loop-k
invariant-loop-k g l = record {
  seats : l.seats ≡ map kept_seat (take l.k l.fn.seats) ++ drop l.k l.fn.seats;
  others : l.others.items ≡ map new_seat (take l.k l.fn.seats);
  room : length l.fn.seats ≤ vec_capacity l.others;
}
