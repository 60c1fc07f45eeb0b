-- The seat holds the one pin that it was given.
use Rattle.sharing_tests.proofs.HeldLemmas.{any_holds}
use Rattle.sharing_tests.proofs.gate_calls.find.Goals as goal

pub returns-in-Ok-clause-one : goal.returns-in-Ok-clause-one
returns-in-Ok-clause-one g c =
    any_holds _ _ _ _ _ _ c.in-Ok.found c.requires.0 c.requires.1 c.in-Ok.ensures.some
    c.in-Ok.ensures.pinned
