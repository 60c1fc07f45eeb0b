use Rattle.std.proofs.Common.{◌≡◌, ℕ, ◌*◌, ◌<◌, ◌≤◌, get_or}
use Rattle.texel_filter.specs.Coordinate.{unit}
use Rattle.texel_filter.specs.Filter.{max_trilinear_sum}
use Rattle.texel_filter.proofs.sums.write_whole.Given as goal

abbrev pub invariant-loop-c : goal.invariant-loop-c
invariant-loop-c l = record {
  value : (k : ℕ) → k < l.c → get_or l.out k 0 ≡ unit * get_or l.sums k 0;
  high : (k : ℕ) → k < l.c → get_or l.out k 0 ≤ max_trilinear_sum;
}
