-- The samples of the planes before this one are at their places.
use Rattle.std.proofs.Common.{◌≡◌, ◌+◌, ◌*◌, ◌<◌, ℕ, get_or}
use Rattle.tiff_format.specs.Block.{samples_aside}
use Rattle.tile_layout.specs.Cell.{bit_depth_in}
use Rattle.tile_layout.specs.Kept.{level_in}
use Rattle.tile_layout.specs.Plane.{plane_in}
use Rattle.tile_layout.specs.Texel.{FitDepth}
use Rattle.piece_samples.specs.Beyond.{IsAllBeyond}
use Rattle.piece_samples.specs.TexelRow.{IsReadSample, row_rect}
use Rattle.piece_samples.proofs.row.read_row.Given as goal

abbrev pub invariant-each : goal.invariant-each
invariant-each g l = record {
  keeps : g.B.ByteReader.keeps l.initial.reader l.reader;
  read : (q i a : ℕ) → q < l.plane → i < l.row.n
      → a < samples_aside (level_in l.row.layout.now l.row.level).shape
      → IsReadSample (g.B.ByteReader.size l.initial.reader)
      (g.B.ByteReader.bytes l.initial.reader) l.row.layout.now.big
      (plane_in l.row.layout.now l.row.level q) (l.row.x + l.row.n) (l.row.x + i) l.row.y a
      (get_or l.samples ((i * samples_aside (level_in l.row.layout.now l.row.level).shape + a)
      * (level_in l.row.layout.now l.row.level).shape.planes + q) 0);
  unread : IsAllBeyond (level_in l.row.layout.now l.row.level)
      (g.B.ByteReader.size l.initial.reader) (row_rect l.row.x l.row.y l.row.n)
      → l.reader ≡ l.initial.reader;
  low : FitDepth (bit_depth_in l.row.layout.now) l.initial.samples
      → FitDepth (bit_depth_in l.row.layout.now) l.samples;
}
