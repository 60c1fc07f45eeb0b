use Rattle.std.proofs.Common.{◌≡◌, ℕ, ◌++◌, replicate}
use Rattle.tile_layout.specs.Texel.{FitDepth}
use Rattle.rect_read.specs.Taken.{taken, KeepsOthers}
use Rattle.rect_read.specs.RectSamples.{samples_of}
use Rattle.rect_read.proofs.samples.Samples.push_zeros.Given as goal

-- this many zeros follow the samples already taken
abbrev pub invariant-loop : goal.invariant-loop
invariant-loop l = record {
  values : taken l.self ≡ taken l.initial.self ++ replicate l.counter 0;
  low : (depth : ℕ) → FitDepth depth (samples_of l.initial.self.values)
      → FitDepth depth (samples_of l.self.values);
  others : KeepsOthers l.initial.self l.self;
}
