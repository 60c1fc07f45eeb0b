-- The first texels of the row are read, and the others of it are to come.
use Rattle.std.proofs.Common.{◌≡◌, ◌≢◌, ◌+◌, ◌-◌, ◌*◌, ◌≤◌, ◌<◌, ℕ, length, get_or}
use Rattle.tile_layout.specs.Pieces.{row_texels}
use Rattle.tile_layout.specs.Plane.{plane_in}
use Rattle.piece_samples.specs.Beyond.{IsPlaneBeyond}
use Rattle.piece_samples.specs.TexelRow.{IsReadSample, row_rect}
use Rattle.piece_samples.specs.Unpacked.{KeepsDepth}
use Rattle.piece_samples.proofs.row.read_plane.Given as goal

abbrev pub invariant-pieces : goal.invariant-pieces
invariant-pieces g l = record {
  keeps : g.B.ByteReader.keeps l.initial.reader l.reader;
  level : l.pieces.level ≡ plane_in l.row.layout.now l.row.level l.plane;
  right : l.pieces.right ≡ l.row.x + l.row.n;
  fits : l.done ≤ l.row.n;
  left : l.pieces.texels ≡ row_texels (l.row.x + l.done) l.row.y (l.row.n - l.done);
  read : (i c : ℕ) → i < l.done → c < l.format.channels
      → IsReadSample (g.B.ByteReader.size l.initial.reader)
      (g.B.ByteReader.bytes l.initial.reader) l.format.big
      (plane_in l.row.layout.now l.row.level l.plane) (l.row.x + l.row.n)
      (l.row.x + i) l.row.y c
      (get_or l.samples ((i * l.format.channels + c) * l.planes + l.plane) 0);
  others : (k q : ℕ) → q < l.planes → q ≢ l.plane
      → get_or l.samples (k * l.planes + q) 0 ≡ get_or l.initial.samples (k * l.planes + q) 0;
  unread : IsPlaneBeyond (plane_in l.row.layout.now l.row.level l.plane)
      (g.B.ByteReader.size l.initial.reader) (row_rect l.row.x l.row.y l.row.n)
      → l.reader ≡ l.initial.reader;
  low : KeepsDepth l.format l.initial.samples l.samples;
}

abbrev pub decreases-pieces : goal.decreases-pieces
decreases-pieces g l = length l.pieces.texels
