-- The values of the channels so far are at their places.
use Rattle.std.proofs.Common.{◌≡◌, ℕ, ◌<◌, length, slice_index}
use Rattle.tile_store.specs.SampleRow.{samples_of}
use Rattle.texel_values.specs.Values.{sample_value}
use Rattle.texel_values.proofs.values.write_kept.Given as goal

abbrev pub invariant-loop-c : goal.invariant-loop-c
invariant-loop-c l = record {
  long : length l.out ≡ length l.fn.out;
  so_far : (k : ℕ) → k < l.c → slice_index l.out k ≡ sample_value (samples_of l.fn.samples) l.fn.depth k;
}
