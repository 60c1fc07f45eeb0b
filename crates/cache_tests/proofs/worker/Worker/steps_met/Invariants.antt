-- The cache stays.
use Rattle.std.proofs.Common.{◌≡◌}
use Rattle.cache_tests.proofs.worker.Worker.steps_met.Given as goal

abbrev pub invariant-loop-met : goal.invariant-loop-met
invariant-loop-met g l = l.self.cache.now ≡ l.fn.self.cache.now
