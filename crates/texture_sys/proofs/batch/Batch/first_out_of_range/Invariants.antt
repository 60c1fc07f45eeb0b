use Rattle.std.proofs.Common.{ℕ, ◌<◌}
use Rattle.texture_sys.specs.Batch.{IsPlaceInRange, nth_place}
use Rattle.texture_sys.proofs.batch.Batch.first_out_of_range.Given as goal

-- the lookups before are in range
abbrev pub invariant-loop-i : goal.invariant-loop-i
invariant-loop-i l = (k : ℕ) → k < l.i → IsPlaceInRange l.self.options (nth_place l.self k)
