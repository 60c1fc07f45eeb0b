-- Only unpinned tiles were removed.
use Rattle.shard_gate.proofs.LeaveLemmas.{behind_purge}
use Rattle.shard_gate.proofs.work.purge_in.Goals as goal

pub returns-clause-behind : goal.returns-clause-behind
returns-clause-behind g c =
    behind_purge c.args.shard.now c.purge.new.self c.requires.slots c.tiles-2.ensures.slots
    c.requires.left c.purge.ensures.slots c.tiles.ensures.valid.distinct
    c.tiles-2.ensures.valid.distinct c.purge.ensures.pinned
