use Rattle.texel_filter.specs.Image.{image_of}
use Rattle.texel_filter.specs.Filter.{trilinear_sum}
use Rattle.texel_filter.specs.LevelPair.{alone_sum, between_sum}
use Rattle.texel_filter.proofs.CallLemmas.{on_ok}
use Rattle.texel_filter.proofs.FilterLemmas.{trisum_alone, trisum_between, values_like}
use Rattle.texel_filter.proofs.FilterLemmas.{visits_alone, visits_between}
use Rattle.texel_filter.proofs.fine.trisum_fine.Goals as goal

pub returns-then-levels-eq-NO_FRACTION-clause-told : goal.returns-then-levels-eq-NO_FRACTION-clause-told
returns-then-levels-eq-NO_FRACTION-clause-told g c = λ values is.
    let image = image_of (g.F.Fetch.sizes c.args.f.now) values in
    let r = c.args.r.now in
    let first = rw c.levels.ensures.value at c.at-levels.ensures.first in
    let fraction = rw c.levels.ensures.value at c.at-levels.ensures.fraction in
    on_ok c.sum_level.result (c.sum_level.ensures.told values is)
    (values_like (alone_sum image r c.at-levels.result.first) (trilinear_sum image r) _
    (λ k. trisum_alone image r c.at-levels.result.first c.at-levels.result.fraction k first fraction
    c.if-levels-eq-NO_FRACTION.true))

pub returns-then-levels-eq-NO_FRACTION-clause-left : goal.returns-then-levels-eq-NO_FRACTION-clause-left
returns-then-levels-eq-NO_FRACTION-clause-left g c =
    let first = rw c.levels.ensures.value at c.at-levels.ensures.first in
    let fraction = rw c.levels.ensures.value at c.at-levels.ensures.fraction in
    let same = visits_alone (g.F.Fetch.sizes c.args.f.now) c.args.r.now c.at-levels.result.first
    c.at-levels.result.fraction first fraction c.if-levels-eq-NO_FRACTION.true in
    rw (← same) c.sum_level.ensures.left

pub returns-else-levels-eq-NO_FRACTION-clause-told : goal.returns-else-levels-eq-NO_FRACTION-clause-told
returns-else-levels-eq-NO_FRACTION-clause-told g c = λ values is.
    let image = image_of (g.F.Fetch.sizes c.args.f.now) values in
    let r = c.args.r.now in
    let first = rw c.levels.ensures.value at c.at-levels.ensures.first in
    let fraction = rw c.levels.ensures.value at c.at-levels.ensures.fraction in
    on_ok c.sum_between.result (c.sum_between.ensures.told values is)
    (values_like (between_sum image r c.at-levels.result) (trilinear_sum image r) _
    (λ k. trisum_between image r c.at-levels.result k first fraction))

pub returns-else-levels-eq-NO_FRACTION-clause-left : goal.returns-else-levels-eq-NO_FRACTION-clause-left
returns-else-levels-eq-NO_FRACTION-clause-left g c =
    let first = rw c.levels.ensures.value at c.at-levels.ensures.first in
    let fraction = rw c.levels.ensures.value at c.at-levels.ensures.fraction in
    let same = visits_between (g.F.Fetch.sizes c.args.f.now) c.args.r.now c.at-levels.result first
    fraction c.if-levels-eq-NO_FRACTION.false in
    rw (← same) c.sum_between.ensures.left
