use Rattle.std.proofs.Common.{◌≡◌, ℕ, ◌<◌, slice_index}
use Rattle.rect_read.proofs.texels.narrowed.Given as goal

-- the first k bytes are the samples
abbrev pub invariant-loop-k : goal.invariant-loop-k
invariant-loop-k l = (i : ℕ) → i < l.k → slice_index l.byte-items i ≡ slice_index l.samples i
