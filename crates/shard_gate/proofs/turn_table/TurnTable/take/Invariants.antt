-- Until a try wins the seat is as it was.
use Rattle.std.proofs.Common.{◌≡◌}
use Rattle.shard_gate.proofs.turn_table.TurnTable.take.Given as goal

abbrev pub invariant-loop-failed : goal.invariant-loop-failed
invariant-loop-failed g l = record {
  me : l.seat.me ≡ l.fn.seat.me;
  table : l.seat.table_id ≡ l.fn.seat.table_id;
}
