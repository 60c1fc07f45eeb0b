-- A look leaves the pins as they are.
use Rattle.shard_gate.specs.Gate.{SamePins}
use Rattle.sharing_tests.proofs.gate_threads.is_settled.Given as goal

abbrev pub invariant-loop-shard : goal.invariant-loop-shard
invariant-loop-shard g l = SamePins l.fn.seat l.seat
