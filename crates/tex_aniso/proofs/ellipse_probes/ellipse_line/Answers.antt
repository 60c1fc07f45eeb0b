use Rattle.std.proofs.Common.{refl, sym, ◌∙◌}
use Rattle.tex_aniso.proofs.EllipseLemmas.{parts_of, no_sides, far_sides, near_sides_of}
use Rattle.tex_aniso.proofs.ellipse_probes.ellipse_line.Goals as goal

pub returns-in-None-clause-value : goal.returns-in-None-clause-value
returns-in-None-clause-value c =
    let r = c.args.r.now in
    let parts = parts_of r c.args.w c.args.h c.of.result c.of-shape.result c.major-major.result
    c.minor-minor.result c.probe_step-step.result c.lod_of-lod.result c.of.ensures.value
    c.of-shape.ensures.value c.major-major.ensures.value c.minor-minor.ensures.value
    c.probe_step-step.ensures.value c.lod_of-lod.ensures in
    c.line_alone.ensures.value
    ∙ no_sides r c.args.w c.args.h c.of-shape.result c.major-major.result c.probe_step-step.result
    c.lod_of-lod.result parts (c.in-None.ensures.none refl)

pub returns-then-is_near-clause-value : goal.returns-then-is_near-clause-value
returns-then-is_near-clause-value c =
    let r = c.args.r.now in
    let parts = parts_of r c.args.w c.args.h c.of.result c.of-shape.result c.major-major.result
    c.minor-minor.result c.probe_step-step.result c.lod_of-lod.result c.of.ensures.value
    c.of-shape.ensures.value c.major-major.ensures.value c.minor-minor.ensures.value
    c.probe_step-step.ensures.value c.lod_of-lod.ensures in
    let sides = c.in-Some.ensures.some in
    c.line_along.ensures.value
    ∙ near_sides_of r c.args.w c.args.h c.of-shape.result c.major-major.result
    c.probe_step-step.result c.lod_of-lod.result c.in-Some.sides.count c.in-Some.sides.bell.reach
    c.of-in-Some.result c.along-along.result.ds c.along-along.result.dt parts
    c.of-in-Some.ensures.value c.along-along.ensures.ds c.along-along.ensures.dt
    (sym c.is_near.ensures ∙ c.if-is_near.true) c.in-Some.sides.some sides.reach sides.count

pub returns-else-is_near-clause-value : goal.returns-else-is_near-clause-value
returns-else-is_near-clause-value c =
    let r = c.args.r.now in
    let parts = parts_of r c.args.w c.args.h c.of.result c.of-shape.result c.major-major.result
    c.minor-minor.result c.probe_step-step.result c.lod_of-lod.result c.of.ensures.value
    c.of-shape.ensures.value c.major-major.ensures.value c.minor-minor.ensures.value
    c.probe_step-step.ensures.value c.lod_of-lod.ensures in
    c.line_alone-else-is_near.ensures.value
    ∙ far_sides r c.args.w c.args.h c.of-shape.result c.major-major.result c.probe_step-step.result
    c.lod_of-lod.result c.of-in-Some.result c.along-along.result.ds c.along-along.result.dt parts
    c.of-in-Some.ensures.value c.along-along.ensures.ds c.along-along.ensures.dt
    (sym c.is_near.ensures ∙ c.if-is_near.false)
