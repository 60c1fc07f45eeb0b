use Rattle.std.proofs.Common.{◌*◌}
use Rattle.std.specs.Option.{ForSome}
use Rattle.texel_filter.specs.Image.{AreFirst, image_of}
use Rattle.texel_filter.specs.Filter.{max_trilinear_sum}
use Rattle.texel_filter.specs.Calls.{EachAnswered}
use Rattle.tex_aniso.specs.Line.{line_sum, line_visits_upto, total_weight}
use Rattle.tex_aniso.specs.Sums.{AreUpTo}
use Rattle.tex_aniso.proofs.line_mean.wide_sums.Given as goal

abbrev pub invariant-loop-j : goal.invariant-loop-j
invariant-loop-j g l = record {
  told : ForSome (g.F.Fetch.values l.initial.f) (λ v. AreFirst l.line.nch
      (λ c. line_sum (image_of (g.F.Fetch.sizes l.initial.f) v) l.line c l.j) l.sums);
  high : AreUpTo (total_weight l.line l.j * max_trilinear_sum) l.sums;
  left : EachAnswered g.F.Fetch.leaves l.initial.f
      (line_visits_upto (g.F.Fetch.sizes l.initial.f) l.line l.j) l.f;
}
