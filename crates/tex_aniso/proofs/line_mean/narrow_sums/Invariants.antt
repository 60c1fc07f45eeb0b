use Rattle.std.proofs.Common.{◌≡◌, ℕ, ◌<◌, slice_index}
use Rattle.std.specs.Option.{ForSome}
use Rattle.texel_filter.specs.Image.{image_of}
use Rattle.texel_filter.specs.Filter.{blended_sum}
use Rattle.texel_filter.specs.Calls.{EachAnswered}
use Rattle.tex_aniso.specs.Line.{line_sum, line_visits_upto, total_weight}
use Rattle.tex_aniso.specs.Sums.{AreTotals}
use Rattle.tex_aniso.proofs.line_mean.narrow_sums.Given as goal

abbrev pub invariant-loop-j : goal.invariant-loop-j
invariant-loop-j g l = record {
  told : ForSome (g.F.Fetch.values l.initial.f) (λ v. (c : ℕ) → c < l.line.nch
      → blended_sum l.levels.fraction (slice_index l.sums.first c) (slice_index l.sums.second c)
      ≡ line_sum (image_of (g.F.Fetch.sizes l.initial.f) v) l.line c l.j);
  high : AreTotals (total_weight l.line l.j) l.sums;
  left : EachAnswered g.F.Fetch.leaves l.initial.f
      (line_visits_upto (g.F.Fetch.sizes l.initial.f) l.line l.j) l.f;
}
