-- The values so far are at their places.
use Rattle.std.proofs.Common.{◌≡◌, ℕ, ◌<◌, length, slice_index}
use Rattle.tile_store.specs.SampleRow.{samples_of}
use Rattle.texel_values.specs.Values.{kept_value}
use Rattle.texel_values.proofs.painting.write_samples.Given as goal

abbrev pub invariant-loop-k : goal.invariant-loop-k
invariant-loop-k l = record {
  long : length l.out ≡ length l.fn.out;
  so_far : (k : ℕ) → k < l.k → slice_index l.out k ≡ kept_value l.fn.depth (slice_index (samples_of l.fn.samples) k);
}
