-- The shards so far are made, each with a seat.
use Rattle.std.proofs.Common.{◌≡◌, ◌≤◌, length, map}
use Rattle.std.specs.Prelude.{vec_capacity}
use Rattle.std.specs.List.{All}
use Rattle.shard_gate.specs.Seated.{IsMadeBy, first_seat}
use Rattle.shard_gate.proofs.laid.laid.Given as goal

abbrev pub invariant-loop-shard : goal.invariant-loop-shard
invariant-loop-shard g l = record {
  made : All (IsMadeBy l.fn.terms.tag l.fn.terms.passes) l.tables.items;
  count : length l.tables.items ≡ l._shard;
  seats : l.seats.items ≡ map first_seat l.tables.items;
  room : l.fn.shards ≤ vec_capacity l.tables;
  room_for_seats : l.fn.shards ≤ vec_capacity l.seats;
}
