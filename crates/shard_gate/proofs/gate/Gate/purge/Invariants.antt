-- Each shard so far was visited once, and its stale entries left.
use Rattle.shard_gate.specs.Gate.{SamePins}
use Rattle.shard_gate.specs.Given.{AtFirst, Purges}
use Rattle.shard_gate.proofs.gate.Gate.purge.Given as goal

abbrev pub invariant-loop-shard : goal.invariant-loop-shard
invariant-loop-shard g l = record {
  same : SamePins l.fn.p l.p;
  visits : AtFirst l.shard (Purges l.fn.file l.fn.below) l.fn.p.visits l.p.visits;
}
