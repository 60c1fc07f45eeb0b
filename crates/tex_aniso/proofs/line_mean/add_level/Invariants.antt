use Rattle.std.proofs.Common.{◌≡◌, ℕ, ◌+◌, ◌*◌, ◌<◌, ◌≤◌, slice_index}
use Rattle.tex_aniso.proofs.line_mean.add_level.Given as goal

abbrev pub invariant-loop-c : goal.invariant-loop-c
invariant-loop-c l = record {
  value : (k : ℕ) → k < l.c
      → slice_index l.sums k ≡ slice_index l.initial.sums k + l.weight * slice_index l.more k;
  rest : (k : ℕ) → l.c ≤ k → slice_index l.sums k ≡ slice_index l.initial.sums k;
}
