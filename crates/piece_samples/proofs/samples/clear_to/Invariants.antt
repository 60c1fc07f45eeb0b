-- The places so far have a 0, and all others are unchanged.
use Rattle.std.proofs.Common.{◌≡◌, ◌≢◌, ℕ, ◌+◌, ◌*◌, ◌<◌, get_or}
use Rattle.tile_layout.specs.Texel.{FitDepth}
use Rattle.piece_samples.proofs.samples.clear_to.Given as goal

abbrev pub invariant-loop-k : goal.invariant-loop-k
invariant-loop-k l = record {
  before : (j : ℕ) → j < l.places.done
      → get_or l.samples (j * l.places.step + l.places.first) 0
      ≡ get_or l.initial.samples (j * l.places.step + l.places.first) 0;
  zeros : (j : ℕ) → j < l.k
      → get_or l.samples ((l.places.done + j) * l.places.step + l.places.first) 0 ≡ 0;
  others : (j c : ℕ) → c < l.places.step → c ≢ l.places.first
      → get_or l.samples (j * l.places.step + c) 0
      ≡ get_or l.initial.samples (j * l.places.step + c) 0;
  low : (depth : ℕ) → FitDepth depth l.initial.samples → FitDepth depth l.samples;
}
