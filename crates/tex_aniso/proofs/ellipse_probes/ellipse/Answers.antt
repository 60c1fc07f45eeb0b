use Rattle.std.proofs.Common.{ap, sym, ◌∙◌}
use Rattle.texel_filter.specs.Image.{image_of}
use Rattle.texel_filter.proofs.CallLemmas.{on_ok}
use Rattle.texel_filter.proofs.FilterLemmas.{values_like}
use Rattle.tex_aniso.specs.declared.probe_line.ProbeLine.{ProbeLine}
use Rattle.tex_aniso.specs.Line.{line_value}
use Rattle.tex_aniso.specs.Ellipse.{ellipse_value}
use Rattle.tex_aniso.proofs.EllipseLemmas.{line_channels}
use Rattle.tex_aniso.proofs.ellipse_probes.ellipse.Goals as goal

pub probes-requires-clause-count : goal.probes-requires-clause-count
probes-requires-clause-count g c =
    let same = ap (λ (line : ProbeLine). line.nch) c.ellipse_line-line.ensures.value in
    c.requires.count ∙ sym (same ∙ line_channels c.args.r.now _ _)

pub returns-clause-told : goal.returns-clause-told
returns-clause-told g c = λ v is.
    let r = c.args.r.now in
    let image = image_of (g.F.Fetch.sizes c.args.f.now) v in
    let same = rw c.size-width.ensures.value at c.ellipse_line-line.ensures.value in
    on_ok c.probes.result (c.probes.ensures.told v is)
    (values_like (line_value image c.ellipse_line-line.result) (ellipse_value image r) _
    (λ k. ap (λ line. line_value image line k) same))
