use Rattle.texel_filter.specs.Image.{image_of}
use Rattle.texel_filter.specs.Filter.{bilinear_in_level, trilinear_value}
use Rattle.texel_filter.specs.LevelPair.{between_value}
use Rattle.texel_filter.proofs.CallLemmas.{on_ok}
use Rattle.texel_filter.proofs.FilterLemmas.{trilinear_alone, trilinear_between, values_like}
use Rattle.texel_filter.proofs.FilterLemmas.{visits_alone, visits_between}
use Rattle.texel_filter.proofs.fine.trilinear_fine.Goals as goal

pub returns-then-levels-eq-NO_FRACTION-clause-told : goal.returns-then-levels-eq-NO_FRACTION-clause-told
returns-then-levels-eq-NO_FRACTION-clause-told g c = λ values is.
    let image = image_of (g.F.Fetch.sizes c.args.f.now) values in
    let r = c.args.r.now in
    let first = rw c.levels.ensures.value at c.at-levels.ensures.first in
    let fraction = rw c.levels.ensures.value at c.at-levels.ensures.fraction in
    on_ok c.write_level.result (c.write_level.ensures.told values is)
    (values_like (bilinear_in_level image r c.at-levels.result.first) (trilinear_value image r) _
    (λ k. trilinear_alone image r c.at-levels.result.first c.at-levels.result.fraction k first fraction
    c.if-levels-eq-NO_FRACTION.true))

pub returns-then-levels-eq-NO_FRACTION-clause-left : goal.returns-then-levels-eq-NO_FRACTION-clause-left
returns-then-levels-eq-NO_FRACTION-clause-left g c =
    let first = rw c.levels.ensures.value at c.at-levels.ensures.first in
    let fraction = rw c.levels.ensures.value at c.at-levels.ensures.fraction in
    let same = visits_alone (g.F.Fetch.sizes c.args.f.now) c.args.r.now c.at-levels.result.first
    c.at-levels.result.fraction first fraction c.if-levels-eq-NO_FRACTION.true in
    rw (← same) c.write_level.ensures.left

pub returns-else-levels-eq-NO_FRACTION-clause-told : goal.returns-else-levels-eq-NO_FRACTION-clause-told
returns-else-levels-eq-NO_FRACTION-clause-told g c = λ values is.
    let image = image_of (g.F.Fetch.sizes c.args.f.now) values in
    let r = c.args.r.now in
    let first = rw c.levels.ensures.value at c.at-levels.ensures.first in
    let fraction = rw c.levels.ensures.value at c.at-levels.ensures.fraction in
    on_ok c.write_between.result (c.write_between.ensures.told values is)
    (values_like (between_value image r c.at-levels.result) (trilinear_value image r) _
    (λ k. trilinear_between image r c.at-levels.result k first fraction))

pub returns-else-levels-eq-NO_FRACTION-clause-left : goal.returns-else-levels-eq-NO_FRACTION-clause-left
returns-else-levels-eq-NO_FRACTION-clause-left g c =
    let first = rw c.levels.ensures.value at c.at-levels.ensures.first in
    let fraction = rw c.levels.ensures.value at c.at-levels.ensures.fraction in
    let same = visits_between (g.F.Fetch.sizes c.args.f.now) c.args.r.now c.at-levels.result first
    fraction c.if-levels-eq-NO_FRACTION.false in
    rw (← same) c.write_between.ensures.left
