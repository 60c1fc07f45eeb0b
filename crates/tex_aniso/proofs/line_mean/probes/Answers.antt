use Rattle.texel_filter.specs.Image.{image_of}
use Rattle.texel_filter.specs.Filter.{trilinear_value}
use Rattle.texel_filter.proofs.CallLemmas.{on_ok}
use Rattle.texel_filter.proofs.FilterLemmas.{values_like}
use Rattle.tex_aniso.specs.Line.{line_value, line_probe}
use Rattle.tex_aniso.proofs.LineLemmas.{line_value_alone}
use Rattle.tex_aniso.proofs.line_mean.probes.Goals as goal

pub returns-then-total-le-MAX_NARROW_WEIGHT-clause-single :
    goal.returns-then-total-le-MAX_NARROW_WEIGHT-clause-single
returns-then-total-le-MAX_NARROW_WEIGHT-clause-single g c = λ v is one.
    let line = c.args.line.now in
    let image = image_of (g.F.Fetch.sizes c.args.f.now) v in
    on_ok c.narrow_mean.result (c.narrow_mean.ensures.told v is)
    (values_like (line_value image line) (trilinear_value image (line_probe line 0)) _
    (λ k. line_value_alone image line k one c.requires.line.weight))

pub returns-else-total-le-MAX_NARROW_WEIGHT-clause-single :
    goal.returns-else-total-le-MAX_NARROW_WEIGHT-clause-single
returns-else-total-le-MAX_NARROW_WEIGHT-clause-single g c = λ v is one.
    let line = c.args.line.now in
    let image = image_of (g.F.Fetch.sizes c.args.f.now) v in
    on_ok c.wide_mean.result (c.wide_mean.ensures.told v is)
    (values_like (line_value image line) (trilinear_value image (line_probe line 0)) _
    (λ k. line_value_alone image line k one c.requires.line.weight))
