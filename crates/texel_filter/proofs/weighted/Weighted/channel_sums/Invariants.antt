-- The sums of the channels so far stand at their places.
use Rattle.std.proofs.Common.{◌≡◌, ℕ, ◌<◌, ◌≤◌, length, slice_index}
use Rattle.tiff_format.specs.Limits.{max_channels}
use Rattle.texel_filter.specs.Image.{AreFirst}
use Rattle.texel_filter.specs.Weighted.{sum_of, max_sum}
use Rattle.texel_filter.proofs.weighted.Weighted.channel_sums.Given as goal

abbrev pub invariant-narrow : goal.invariant-narrow
invariant-narrow l = record {
  long : length l.sums ≡ max_channels;
  value : AreFirst l.c (sum_of l.self) l.sums;
  high : (k : ℕ) → k < l.c → slice_index l.sums k ≤ max_sum;
}

abbrev pub invariant-wide : goal.invariant-wide
invariant-wide l = record {
  long : length l.sums ≡ max_channels;
  value : AreFirst l.c (sum_of l.self) l.sums;
  high : (k : ℕ) → k < l.c → slice_index l.sums k ≤ max_sum;
}
