use Rattle.std.proofs.Common.{◌≡◌, ℕ, ◌<◌, slice_index}
use Rattle.texel_filter.specs.Filter.{blended_sum}
use Rattle.tex_aniso.specs.Mean.{mean_of}
use Rattle.tex_aniso.proofs.line_mean.write_blended.Given as goal

abbrev pub invariant-loop-c : goal.invariant-loop-c
invariant-loop-c l =
    (k : ℕ) → k < l.c → slice_index l.out k ≡ mean_of l.total (blended_sum l.fraction
    (slice_index l.sums.first k) (slice_index l.sums.second k))
