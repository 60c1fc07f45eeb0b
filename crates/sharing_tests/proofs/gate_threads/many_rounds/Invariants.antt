-- Between two rounds the seat holds no pin.
use Rattle.sharing_tests.specs.Held.{IsIdleAt}
use Rattle.sharing_tests.proofs.gate_threads.many_rounds.Given as goal

abbrev pub invariant-loop-round : goal.invariant-loop-round
invariant-loop-round g l = IsIdleAt l.fn.seat.gate l.seat
