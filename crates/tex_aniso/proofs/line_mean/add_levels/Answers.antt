use Rattle.std.proofs.Common.{slice_index, ◌∙◌, sym, ap, arith, rules, ◌*◌}
use Rattle.texel_filter.specs.Image.{image_of}
use Rattle.texel_filter.proofs.CallLemmas.{refused_append, each_append}
use Rattle.texel_filter.proofs.CallLemmas.{sizes_after, values_after}
use Rattle.texel_filter.proofs.FilterLemmas.{trisum_alone, trisum_between}
use Rattle.texel_filter.proofs.FilterLemmas.{visits_alone, visits_between}
use Rattle.texel_filter.specs.Coordinate.{unit}
use Rattle.tex_aniso.proofs.LineLemmas.{blended_alone, blended_both, refused_first}
use Rattle.tex_aniso.proofs.line_mean.add_levels.Goals as goal

pub returns-in_err-first-clause-left : goal.returns-in_err-first-clause-left
returns-in_err-first-clause-left g c =
    let at = c.requires.levels in
    let h = refused_first g.F.Fetch.leaves g.F.Fetch.refuses c.args.f.now c.level_sums.new.f
    (g.F.Fetch.sizes c.args.f.now) c.args.r.now c.args.levels.now c.in_err-first.field-0.0 at.first
    at.fraction c.in_err-first.ensures.left in
    search rules

pub returns-then-levels-eq-NO_FRACTION-clause-told :
    goal.returns-then-levels-eq-NO_FRACTION-clause-told
returns-then-levels-eq-NO_FRACTION-clause-told g c = λ v is k below.
    let r = c.args.r.now in
    let levels = c.args.levels.now in
    let image = image_of (g.F.Fetch.sizes c.args.f.now) v in
    let at = c.requires.levels in
    let none = c.if-levels-eq-NO_FRACTION.true in
    let tri = trisum_alone image r levels.first levels.fraction k at.first at.fraction none in
    let first = c.in_ok-first.ensures.told v is k below in
    blended_alone c.args.weight _ _ (slice_index c.in_ok-first.first k) _ levels.fraction _ none
    (c.add_level.ensures.value k below) (sym tri ∙ ap (λ x. unit * x) (sym first))

pub returns-then-levels-eq-NO_FRACTION-clause-left :
    goal.returns-then-levels-eq-NO_FRACTION-clause-left
returns-then-levels-eq-NO_FRACTION-clause-left g c =
    let levels = c.args.levels.now in
    let at = c.requires.levels in
    let same = visits_alone (g.F.Fetch.sizes c.args.f.now) c.args.r.now levels.first levels.fraction
    at.first at.fraction c.if-levels-eq-NO_FRACTION.true in
    rw (← same) c.in_ok-first.ensures.left

pub level_sums-requires-2-clause-level : goal.level_sums-requires-2-clause-level
level_sums-requires-2-clause-level g c =
    let same = sizes_after g.met.F.Fetch.lawful c.args.f.now c.level_sums.new.f _
    c.in_ok-first.ensures.left in
    rw same (c.requires.levels.next_inside (omega arith))

pub returns-in_err-second-clause-left : goal.returns-in_err-second-clause-left
returns-in_err-second-clause-left g c =
    let levels = c.args.levels.now in
    let at = c.requires.levels in
    let first = c.in_ok-first.ensures.left in
    let same = sizes_after g.met.F.Fetch.lawful c.args.f.now c.level_sums.new.f _ first in
    let second = rw same at c.in_err-second.ensures.left in
    let both = refused_append g.F.Fetch.leaves g.F.Fetch.refuses c.args.f.now c.level_sums.new.f
    c.level_sums-2.new.f _ _ _ first second in
    let h = rw (visits_between (g.F.Fetch.sizes c.args.f.now) c.args.r.now levels at.first
    at.fraction c.if-levels-eq-NO_FRACTION.false) at both in
    search rules

pub returns-clause-told : goal.returns-clause-told
returns-clause-told g c = λ v is k below.
    let r = c.args.r.now in
    let levels = c.args.levels.now in
    let sizes = g.F.Fetch.sizes c.args.f.now in
    let at = c.requires.levels in
    let visits = c.in_ok-first.ensures.left in
    let same = sizes_after g.met.F.Fetch.lawful c.args.f.now c.level_sums.new.f _ visits in
    let still = values_after g.met.F.Fetch.lawful c.args.f.now c.level_sums.new.f _ visits ∙ is in
    let first = c.in_ok-first.ensures.told v is k below in
    let second = (rw same at (c.in_ok-second.ensures.told v still)) k below in
    let tri = trisum_between (image_of sizes v) r levels k at.first at.fraction in
    blended_both levels.fraction _ _ c.args.weight (slice_index c.in_ok-first.first k)
    (slice_index c.in_ok-second.second k) _ _ _ (c.add_level-2.ensures.value k below)
    (c.add_level-3.ensures.value k below)
    (rw (first, second) (sym tri))

pub returns-clause-left : goal.returns-clause-left
returns-clause-left g c =
    let levels = c.args.levels.now in
    let at = c.requires.levels in
    let first = c.in_ok-first.ensures.left in
    let same = sizes_after g.met.F.Fetch.lawful c.args.f.now c.level_sums.new.f _ first in
    let both = each_append g.F.Fetch.leaves c.args.f.now c.level_sums.new.f c.level_sums-2.new.f _ _
    first (rw same at c.in_ok-second.ensures.left) in
    rw (visits_between (g.F.Fetch.sizes c.args.f.now) c.args.r.now levels at.first at.fraction
    c.if-levels-eq-NO_FRACTION.false) at both
