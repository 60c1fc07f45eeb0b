use Rattle.std.proofs.Common.{◌≡◌, ℕ, ◌-◌, ◌<◌, ◌≤◌, slice_index}
use Rattle.tiff_format.specs.Texel.{greatest_sample}
use Rattle.unpack.specs.Sample.{depth_of}
use Rattle.unpack.proofs.passes.invert_all.Given as goal

abbrev pub invariant-loop-sample : goal.invariant-loop-sample
invariant-loop-sample l = record {
  below : (k : ℕ) → k < l.sample-index
      → slice_index l.dst k ≡ greatest_sample (depth_of l.wide) - slice_index l.initial.dst k;
  above : (k : ℕ) → l.sample-index ≤ k → slice_index l.dst k ≡ slice_index l.initial.dst k;
}
