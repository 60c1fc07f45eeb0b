use Rattle.std.proofs.Common.{length}
use Rattle.format_tests.proofs.shard_calls.insert.Given as goal

abbrev pub invariant-telling : goal.invariant-telling
invariant-telling g l = Unit {0}

abbrev pub decreases-telling : goal.decreases-telling
decreases-telling g l = length l.shard.left
