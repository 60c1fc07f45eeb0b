use Rattle.std.proofs.Common.{◌-◌, ◌≤◌, vec_len}
use Rattle.render_run.specs.ListRead.{IsTaken}
use Rattle.render_run.proofs.list.read_chunks.Given as goal

-- the bytes so far came off the front of the feed
abbrev pub invariant-more : goal.invariant-more
invariant-more g l = record {
  taken : IsTaken l.bytes.items (g.I.Feed.left l.initial.feed) (g.I.Feed.left l.feed);
  faults : g.I.Feed.faults l.initial.feed ≤ g.I.Feed.faults l.feed;
}

abbrev pub decreases-more : goal.decreases-more
decreases-more g l = 16777217 - vec_len l.bytes
