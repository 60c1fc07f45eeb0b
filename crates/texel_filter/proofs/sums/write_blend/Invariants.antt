use Rattle.std.proofs.Common.{◌≡◌, ℕ, ◌<◌, get_or}
use Rattle.texel_filter.specs.Filter.{blended_sum, rounded_sum}
use Rattle.texel_filter.proofs.sums.write_blend.Given as goal

abbrev pub invariant-loop-c : goal.invariant-loop-c
invariant-loop-c l =
    (k : ℕ) → k < l.c
    → get_or l.out k 0
    ≡ rounded_sum (blended_sum l.fraction (get_or l.first k 0) (get_or l.second k 0))
