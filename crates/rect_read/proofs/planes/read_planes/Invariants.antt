use Rattle.std.proofs.Common.{◌≡◌, ◌*◌, length}
use Rattle.std.specs.Option.{ForSome}
use Rattle.tile_layout.specs.Blocks.{HoldsBlocks}
use Rattle.tile_layout.specs.Cell.{bit_depth_in}
use Rattle.tile_layout.specs.Kept.{level_in}
use Rattle.tile_layout.specs.Texel.{FitDepth}
use Rattle.piece_samples.specs.Beyond.{IsFilled, IsAllBeyond}
use Rattle.rect_read.specs.Planes.{ArePlaneZeros, ArePlaneSamples}
use Rattle.rect_read.proofs.planes.read_planes.Given as goal

-- the samples of the planes before this one are at their places
abbrev pub invariant-each : goal.invariant-each
invariant-each g l = record {
  keeps : g.B.ByteReader.keeps l.initial.reader l.reader;
  long : length l.values.items ≡ l.place.rect.w * l.place.rect.h * l.planes;
  low : FitDepth (bit_depth_in l.place.layout.now) l.values.items;
  zeros : ArePlaneZeros (level_in l.place.layout.now l.place.level)
      (g.B.ByteReader.size l.initial.reader) l.place.rect l.plane l.values.items;
  unread : IsFilled l.place.rect → IsAllBeyond (level_in l.place.layout.now l.place.level)
      (g.B.ByteReader.size l.initial.reader) l.place.rect → l.reader ≡ l.initial.reader;
  told : ForSome (g.B.ByteReader.bytes l.initial.reader) (λ bytes.
      HoldsBlocks bytes (level_in l.place.layout.now l.place.level)
      → ArePlaneSamples l.place.layout.now.big bytes (level_in l.place.layout.now l.place.level)
      l.place.rect l.plane l.values.items);
}
