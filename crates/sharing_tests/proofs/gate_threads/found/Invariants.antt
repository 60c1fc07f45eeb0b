-- Between two looks the seat holds no pin.
use Rattle.sharing_tests.specs.Held.{IsIdleAt}
use Rattle.sharing_tests.proofs.gate_threads.found.Given as goal

abbrev pub invariant-loop-number : goal.invariant-loop-number
invariant-loop-number g l = IsIdleAt l.fn.seat.gate l.seat
