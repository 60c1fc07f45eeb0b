use Rattle.std.proofs.Common.{◌<◌, ◌∙◌, arith}
use Rattle.texel_filter.specs.Image.{image_of}
use Rattle.tex_aniso.proofs.LineLemmas.{line_value_is}
use Rattle.tex_aniso.proofs.line_mean.narrow_mean.Goals as goal

pub returns-clause-told : goal.returns-clause-told
returns-clause-told g c = λ v is k below.
    let line = c.args.line.now in
    let image = image_of (g.F.Fetch.sizes c.args.f.now) v in
    let long : k < line.nch = omega arith in
    c.write_blended.ensures k below
    ∙ line_value_is image line k c.args.total _ c.requires.total
    (c.in_ok-sums.ensures.told v is k long)
