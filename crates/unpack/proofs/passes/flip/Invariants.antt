use Rattle.std.proofs.Common.{◌≡◌, ℕ, ◌<◌, ◌≤◌, slice_index, bit_xor}
use Rattle.unpack.proofs.passes.flip.Given as goal

abbrev pub invariant-loop-k : goal.invariant-loop-k
invariant-loop-k l = record {
  below : (i : ℕ) → i < l.k
      → slice_index l.dst i ≡ bit_xor (slice_index l.initial.dst i) (slice_index l.mask i);
  above : (i : ℕ) → l.k ≤ i → slice_index l.dst i ≡ slice_index l.initial.dst i;
}
