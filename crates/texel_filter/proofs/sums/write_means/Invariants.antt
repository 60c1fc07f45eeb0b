use Rattle.std.proofs.Common.{◌≡◌, ℕ, ◌+◌, ◌/◌, ◌^◌, ◌<◌, get_or}
use Rattle.texel_filter.proofs.sums.write_means.Given as goal

abbrev pub invariant-loop-c : goal.invariant-loop-c
invariant-loop-c l =
    (k : ℕ) → k < l.c → get_or l.out k 0 ≡ (get_or l.sums k 0 + 2 ^ 31) / 2 ^ 32
