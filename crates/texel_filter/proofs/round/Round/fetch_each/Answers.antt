use Rattle.std.proofs.Common.{◌++◌}
use Rattle.texel_filter.specs.Visits.{visit_in}
use Rattle.texel_filter.proofs.CallLemmas.{left_append, each_append}
use Rattle.texel_filter.proofs.round.Round.fetch_each.Goals as goal

pub returns-clause-left : goal.returns-clause-left
returns-clause-left g c =
    let o = c.args.self.now in
    let one = visit_in o.level o.columns.first o.rows.first in
    let two = visit_in o.level o.columns.second o.rows.first in
    let three = visit_in o.level o.columns.first o.rows.second in
    let four = visit_in o.level o.columns.second o.rows.second in
    let s0 = c.args.f.now in
    let s1 = c.fetch_one.new.f in
    let s2 = c.fetch_one-2.new.f in
    let s3 = c.fetch_one-3.new.f in
    left_append g.F.Fetch.leaves g.F.Fetch.refuses s0 s3 c.fetch_one-4.new.f (one ++ two ++ three)
    four c.fetch_one-4.result
    (each_append g.F.Fetch.leaves s0 s2 s3 (one ++ two) three
    (each_append g.F.Fetch.leaves s0 s1 s2 one two c.in_ok-fetch_one.ensures.left
    c.in_ok-fetch_one-2.ensures.left) c.in_ok-fetch_one-3.ensures.left) c.fetch_one-4.ensures.left
