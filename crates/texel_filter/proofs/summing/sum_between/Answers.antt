use Rattle.std.proofs.Common.{◌<◌, ◌+◌, ◌∙◌, arith, rules, length}
use Rattle.texel_filter.specs.Visits.{square_visits}
use Rattle.texel_filter.proofs.CallLemmas.{refused_before, refused_append, each_append}
use Rattle.texel_filter.proofs.CallLemmas.{sizes_after, values_after}
use Rattle.texel_filter.proofs.summing.sum_between.Goals as goal

pub returns-in_err-first-clause-left : goal.returns-in_err-first-clause-left
returns-in_err-first-clause-left g c =
    let sizes = g.F.Fetch.sizes c.args.f.now in
    let second = square_visits sizes c.args.r.now (c.args.levels.first + 1) in
    let h = refused_before _ _ _ _ _ second _ c.in_err-first.ensures.left in search rules

pub level_sums-requires-2-clause-level : goal.level_sums-requires-2-clause-level
level_sums-requires-2-clause-level g c =
    rw (sizes_after g.met.F.Fetch.lawful c.args.f.now c.level_sums.new.f _ c.in_ok-first.ensures.left)
    c.requires.levels

pub returns-in_err-second-clause-left : goal.returns-in_err-second-clause-left
returns-in_err-second-clause-left g c =
    let first = c.in_ok-first.ensures.left in
    let same = sizes_after g.met.F.Fetch.lawful c.args.f.now c.level_sums.new.f _ first in
    let second = rw same at c.in_err-second.ensures.left in
    let h = refused_append g.F.Fetch.leaves g.F.Fetch.refuses c.args.f.now c.level_sums.new.f
    c.level_sums-2.new.f _ _ _ first second in
    search rules

pub returns-clause-left : goal.returns-clause-left
returns-clause-left g c =
    let first = c.in_ok-first.ensures.left in
    let same = sizes_after g.met.F.Fetch.lawful c.args.f.now c.level_sums.new.f _ first in
    each_append g.F.Fetch.leaves c.args.f.now c.level_sums.new.f c.level_sums-2.new.f _ _ first
    (rw same at c.in_ok-second.ensures.left)

pub returns-clause-told : goal.returns-clause-told
returns-clause-told g c = λ values is k below.
    let first = c.in_ok-first.ensures.left in
    let same = sizes_after g.met.F.Fetch.lawful c.args.f.now c.level_sums.new.f _ first in
    let still = values_after g.met.F.Fetch.lawful c.args.f.now c.level_sums.new.f _ first ∙ is in
    let second = rw same at (c.in_ok-second.ensures.told values still) in
    let long : k < length c.args.out.now = omega arith in
    c.write_sums.ensures.value k below ∙ rw (c.in_ok-first.ensures.told values is k long, second k long)
