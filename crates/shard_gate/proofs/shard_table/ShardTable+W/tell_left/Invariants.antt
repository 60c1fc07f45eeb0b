-- Some slots were reported, and the shard has the same entries in the same slots.
use Rattle.std.proofs.Common.{◌≡◌, length}
use Rattle.crossbeam_utils.specs.Padded.{padded_value}
use Rattle.shard_gate.proofs.TellLemmas.{ToldSoFar, left_in}
use Rattle.shard_gate.proofs.shard_table.ShardTable+W.tell_left.Given as goal

abbrev pub invariant-telling : goal.invariant-telling
invariant-telling g l = record {
  table : l.seat.table_id ≡ l.fn.seat.table_id;
  told : ToldSoFar padded_value l.fn.seat.me l.seat.me;
}

abbrev pub decreases-telling : goal.decreases-telling
decreases-telling g l = length (left_in padded_value l.seat.me.1)
