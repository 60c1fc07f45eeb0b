use Rattle.std.proofs.Common.{◌≡◌, ◌++◌, take, rules, arith}
use Rattle.render_run.proofs.Taken.{taken_end, taken_more}
use Rattle.render_run.proofs.list.read_chunks.Goals as goal

pub returns-then-n-eq0-clause-read : goal.returns-then-n-eq0-clause-read
returns-then-n-eq0-clause-read g c =
    taken_end c.more.bytes.items c.read.new.buf c.in_ok-n.n (g.I.Feed.left c.args.feed.now)
    (g.I.Feed.left c.more.feed) (g.I.Feed.left c.read.new.self)
    c.more.invariant.taken c.in_ok-n.ensures.ok c.if-n-eq0.true

pub more-preserved : goal.more-preserved
more-preserved g c =
    let bytes : c.extend_from_slice.new.self.items
    ≡ c.more.bytes.items ++ take c.in_ok-n.n c.read.new.buf = search rules in
    record {
      taken =
          rw bytes
          (taken_more c.more.bytes.items c.read.new.buf c.in_ok-n.n (g.I.Feed.left c.args.feed.now)
          (g.I.Feed.left c.more.feed) (g.I.Feed.left c.read.new.self)
          c.more.invariant.taken c.in_ok-n.ensures.ok);
      faults = omega (arith, c.more.invariant.faults, c.read.ensures.faults);
    }
