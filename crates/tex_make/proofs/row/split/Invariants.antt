use Rattle.std.proofs.Common.{◌≡◌, ℕ, ◌+◌, ◌*◌, ◌/◌, ◌%◌, ◌<◌, slice_index}
use Rattle.tex_make.proofs.row.split.Given as goal

abbrev pub invariant-loop-k : goal.invariant-loop-k
invariant-loop-k l = record {
  low : (k : ℕ) → k < l.k → slice_index l.out (2 * k) ≡ slice_index l.samples k % 256;
  high : (k : ℕ) → k < l.k → slice_index l.out (2 * k + 1) ≡ slice_index l.samples k / 256;
}
