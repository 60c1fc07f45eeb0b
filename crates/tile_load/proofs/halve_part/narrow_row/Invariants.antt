-- The first bytes are the samples that fit.
use Rattle.std.proofs.Common.{◌≡◌, ℕ, ◌<◌, ◌≤◌, slice_index}
use Rattle.tile_load.proofs.halve_part.narrow_row.Given as goal

abbrev pub invariant-loop-k : goal.invariant-loop-k
invariant-loop-k l = (i : ℕ) → i < l.k → slice_index l.row i ≤ 255
    → slice_index l.out i ≡ slice_index l.row i
