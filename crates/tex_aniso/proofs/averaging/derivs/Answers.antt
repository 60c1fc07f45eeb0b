use Rattle.std.proofs.Common.{◌<◌, ◌∙◌, arith, rules}
use Rattle.texel_filter.specs.Image.{image_of}
use Rattle.tex_aniso.proofs.MeanLemmas.{value_of_plan, visits_of_plan, value_alone}
use Rattle.tex_aniso.proofs.averaging.derivs.Goals as goal

pub returns-clause-told : goal.returns-clause-told
returns-clause-told g c = λ v is k below.
    let r = c.args.r.now in
    let sizes = g.F.Fetch.sizes c.args.f.now in
    let plan = rw c.size-width.ensures.value at c.plan-plan.ensures.value in
    let long : k < r.nch = omega arith in
    c.write_means.ensures k below
    ∙ rw (c.in_ok-sums.ensures.told v is k long)
    (value_of_plan (image_of sizes v) r c.plan-plan.result k plan)

pub returns-clause-single : goal.returns-clause-single
returns-clause-single g c = λ v is one k below.
    returns-clause-told g c v is k below
    ∙ value_alone (image_of (g.F.Fetch.sizes c.args.f.now) v) c.args.r.now k one

pub returns-clause-left : goal.returns-clause-left
returns-clause-left g c =
    let plan = rw c.size-width.ensures.value at c.plan-plan.ensures.value in
    rw (← visits_of_plan (g.F.Fetch.sizes c.args.f.now) c.args.r.now c.plan-plan.result plan)
    c.in_ok-sums.ensures.left

pub returns-in_err-sums-clause-left : goal.returns-in_err-sums-clause-left
returns-in_err-sums-clause-left g c =
    let plan = rw c.size-width.ensures.value at c.plan-plan.ensures.value in
    let h = rw (visits_of_plan (g.F.Fetch.sizes c.args.f.now) c.args.r.now c.plan-plan.result plan)
    at c.in_err-sums.ensures.left in
    search rules
