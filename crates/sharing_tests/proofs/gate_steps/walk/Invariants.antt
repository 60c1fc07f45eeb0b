-- Between two steps the seat holds no pin.
use Rattle.sharing_tests.specs.Held.{IsIdleAt}
use Rattle.sharing_tests.proofs.gate_steps.walk.Given as goal

abbrev pub invariant-loop-at : goal.invariant-loop-at
invariant-loop-at l = IsIdleAt l.fn.seat.gate l.seat
