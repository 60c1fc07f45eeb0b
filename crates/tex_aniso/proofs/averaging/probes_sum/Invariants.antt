use Rattle.std.proofs.Common.{◌*◌}
use Rattle.std.specs.Option.{ForSome}
use Rattle.texel_filter.specs.Image.{AreFirst, image_of}
use Rattle.texel_filter.specs.Filter.{max_trilinear_sum}
use Rattle.texel_filter.specs.Calls.{EachAnswered}
use Rattle.tex_aniso.specs.Mean.{probes_sum, probes_visits}
use Rattle.tex_aniso.specs.Sums.{AreUpTo}
use Rattle.tex_aniso.proofs.averaging.probes_sum.Given as goal

abbrev pub invariant-loop-j : goal.invariant-loop-j
invariant-loop-j g l = record {
  told : ForSome (g.F.Fetch.values l.initial.f) (λ v. AreFirst l.r.nch
      (λ c. probes_sum (image_of (g.F.Fetch.sizes l.initial.f) v) l.r l.p c l.j) l.sums);
  high : AreUpTo (l.j * max_trilinear_sum) l.sums;
  left : EachAnswered g.F.Fetch.leaves l.initial.f
      (probes_visits (g.F.Fetch.sizes l.initial.f) l.r l.p l.j) l.f;
}
