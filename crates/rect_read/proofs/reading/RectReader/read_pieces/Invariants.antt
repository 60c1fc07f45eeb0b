use Rattle.std.proofs.Common.{◌≡◌, ℕ, ◌+◌, ◌*◌, ◌++◌, ◌≤◌, List, length}
use Rattle.std.specs.Option.{ForSome}
use Rattle.std.specs.List.{flat_map, All}
use Rattle.tile_layout.specs.FormatOf.{IsFormatOf}
use Rattle.tile_layout.specs.Blocks.{HoldsBlocks}
use Rattle.rect_read.specs.Samples.{samples_at}
use Rattle.rect_read.specs.Zeros.{AddsTexels, LiesBeyond}
use Rattle.rect_read.specs.Taken.{taken, KeepsOthers}
use Rattle.rect_read.specs.RectSamples.{samples_of}
use Rattle.piece_samples.specs.Unpacked.{KeepsDepth}
use Rattle.rect_read.specs.Window.{AreWindows}
use Rattle.rect_read.proofs.reading.RectReader.read_pieces.Given as goal

-- the values so far, and those of the texels to come, are those of all texels
abbrev pub invariant-pieces : goal.invariant-pieces
invariant-pieces g l = record {
  keeps : g.B.ByteReader.keeps l.initial.reader l.reader;
  some : l.k ≤ length l.self.windows.items;
  level : l.pieces.level ≡ l.initial.pieces.level;
  right : l.pieces.right ≡ l.initial.pieces.right;
  zeros : IsFormatOf l.format.big l.initial.pieces.level.shape l.format
      → (last : List ℕ)
      → AddsTexels (LiesBeyond l.initial.pieces.level l.initial.pieces.right
      (g.B.ByteReader.size l.initial.reader)) l.format.channels
      l.pieces.texels (taken l.self.samples) last
      → AddsTexels (LiesBeyond l.initial.pieces.level l.initial.pieces.right
      (g.B.ByteReader.size l.initial.reader)) l.format.channels
      l.initial.pieces.texels (taken l.initial.self.samples) last;
  unread : IsFormatOf l.format.big l.initial.pieces.level.shape l.format
      → All (LiesBeyond l.initial.pieces.level l.initial.pieces.right
      (g.B.ByteReader.size l.initial.reader)) l.initial.pieces.texels
      → All (LiesBeyond l.initial.pieces.level l.initial.pieces.right
      (g.B.ByteReader.size l.initial.reader)) l.pieces.texels
      × (l.reader ≡ l.initial.reader);
  count : length (taken l.self.samples) + length l.pieces.texels * l.format.channels
      ≡ length (taken l.initial.self.samples)
      + length l.initial.pieces.texels * l.format.channels;
  low : KeepsDepth l.format (samples_of l.initial.self.samples.values)
      (samples_of l.self.samples.values);
  others : KeepsOthers l.initial.self.samples l.self.samples;
  told : ForSome (g.B.ByteReader.bytes l.initial.reader) (λ bytes.
      AreWindows bytes l.initial.self.windows.items
      → IsFormatOf l.format.big l.initial.pieces.level.shape l.format
      → HoldsBlocks bytes l.initial.pieces.level
      → AreWindows bytes l.self.windows.items × (taken l.self.samples
      ++ flat_map (samples_at l.format.big bytes l.initial.pieces.level) l.pieces.texels
      ≡ taken l.initial.self.samples
      ++ flat_map (samples_at l.format.big bytes l.initial.pieces.level) l.initial.pieces.texels));
}

abbrev pub decreases-pieces : goal.decreases-pieces
decreases-pieces g l = length l.pieces.texels
