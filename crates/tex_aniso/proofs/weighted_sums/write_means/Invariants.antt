use Rattle.std.proofs.Common.{◌≡◌, ℕ, ◌<◌, slice_index}
use Rattle.tex_aniso.specs.Mean.{mean_of}
use Rattle.tex_aniso.proofs.weighted_sums.write_means.Given as goal

abbrev pub invariant-loop-c : goal.invariant-loop-c
invariant-loop-c l =
    (k : ℕ) → k < l.c → slice_index l.out k ≡ mean_of l.total (slice_index l.sums k)
