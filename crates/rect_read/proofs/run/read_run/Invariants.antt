use Rattle.std.proofs.Common.{◌≡◌, ℕ, ◌+◌, ◌-◌, ◌*◌, ◌≤◌, length}
use Rattle.std.specs.Option.{ForSome}
use Rattle.tiff_format.specs.Block.{Level}
use Rattle.tile_layout.specs.FormatOf.{IsFormatOf}
use Rattle.rect_read.specs.Run.{AppendsValues, StandSideBySide}
use Rattle.rect_read.specs.Taken.{taken, KeepsOthers}
use Rattle.rect_read.specs.RectSamples.{samples_of}
use Rattle.piece_samples.specs.Unpacked.{KeepsDepth}
use Rattle.rect_read.specs.Window.{IsWindow}
use Rattle.rect_read.proofs.run.read_run.Given as goal

-- the numbers so far are those of the first texels
abbrev pub invariant-parts : goal.invariant-parts
invariant-parts g l = record {
  keeps : g.B.ByteReader.keeps l.initial.reader l.reader;
  within : l.done ≤ l.run.texels;
  count : length (taken l.samples)
      ≡ length (taken l.initial.samples) + l.done * l.format.channels;
  low : KeepsDepth l.format (samples_of l.initial.samples.values) (samples_of l.samples.values);
  others : KeepsOthers l.initial.samples l.samples;
  told : ForSome (g.B.ByteReader.bytes l.initial.reader) (λ bytes.
      IsWindow bytes l.window × ((level : Level) → (x_of y_of : ℕ → ℕ)
      → IsFormatOf l.format.big level.shape l.format
      → StandSideBySide level l.run x_of y_of
      → AppendsValues bytes level l.format l.done x_of y_of
      (taken l.initial.samples) (taken l.samples)));
}

abbrev pub decreases-parts : goal.decreases-parts
decreases-parts g l = l.run.texels - l.done
