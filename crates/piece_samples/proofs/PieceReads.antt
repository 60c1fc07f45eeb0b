-- What is read of a piece, and what is left of its reader.
use Rattle.std.proofs.Common.{◌≡◌, ℕ, ◌+◌, ◌*◌, ◌<◌, ◌≤◌, Bool, List, length, Option}
use Rattle.std.proofs.Common.{refl, sym, ap, ◌∙◌, arith, Err}
use Rattle.std.specs.Option.{ForSome}
use Rattle.tiff_format.specs.Block.{Level, sample_bytes, texel_bytes}
use Rattle.tiff_format.specs.Bytes.{IsPartAt}
use Rattle.tile_layout.proofs.PlaceLemmas.{bytes_by}
use Rattle.tile_layout.specs.FormatOf.{IsFormatOf}
use Rattle.tile_layout.specs.Pieces.{LiesSideBySide}
use Rattle.tile_layout.specs.declared.piece.Piece.{Piece}
use Rattle.tile_layout.specs.declared.texel_format.TexelFormat.{TexelFormat}
use Rattle.piece_samples.specs.TexelRow.{IsReadSample, AfterReads}
use Rattle.piece_samples.specs.Unpacked.{unpacked}
use Rattle.piece_samples.proofs.PieceEnds.{end_of_piece}
use Rattle.piece_samples.proofs.PieceValues.{value_is}

-- the bytes of a texel
pub unit_of : (big : Bool) (level : Level) (format : TexelFormat) → IsFormatOf big level.shape format
    → format.texel_bytes ≡ texel_bytes level.shape
unit_of big level format is = rw (is.one, ← is.channels, ← is.depth) format.in_range.bytes

-- n texels of that many samples of that size
pub samples_of : (n unit channels size : ℕ) → unit ≡ channels * size → n * unit ≡ size * (n * channels)
samples_of n unit channels size is = rw is (omega arith)

module _ (len : ℕ) (held : Option (List ℕ)) (level : Level) (format : TexelFormat)
    (is : IsFormatOf format.big level.shape format) (right : ℕ) (piece : Piece)
    (lies : LiesSideBySide level right piece) (i c : ℕ) (column : i < piece.n) where
  -- the samples of a piece that lies below the length are those of its bytes
  pub piece_read : (span : List ℕ) → piece.at + piece.n * format.texel_bytes ≤ len
      → length span ≡ piece.n * format.texel_bytes
      → ForSome held (λ bytes. IsPartAt bytes piece.at span) → c < format.channels
      → IsReadSample len held format.big level right (piece.x + i) piece.y c
      (unpacked format span (i * format.channels + c))
  piece_read span below long part channel =
      let unit = unit_of format.big level format is in
      let ends = end_of_piece level right piece lies i column in
      let bytes_of : piece.n * format.texel_bytes ≡ piece.n * texel_bytes level.shape =
      ap (λ (n : ℕ). piece.n * n) unit in
      let size : length span ≡ sample_bytes level.shape.depth * (piece.n * level.shape.channels) =
      long ∙ samples_of piece.n format.texel_bytes level.shape.channels
      (sample_bytes level.shape.depth) (unit ∙ bytes_by level.shape is.one) in
      record {
        zero = λ beyond. absurd (omega (arith, beyond, ends, bytes_of, below));
        told = λ bytes told holds.
            ap (λ (n : ℕ). unpacked format span (i * n + c)) is.channels
            ∙ sym (value_is format.big bytes level format is piece.n piece.at
            (λ j. piece.x + j) (λ j. piece.y) (λ j d lt. lies.samples j d lt) span
            (part bytes told) size i c column (rw (← is.channels) channel));
      }

  -- modelled bytes contain all blocks, so no piece lies beyond them
  pub piece_unread : len < piece.at + piece.n * format.texel_bytes
      → ForSome held (λ bytes. length bytes ≡ len)
      → IsReadSample len held format.big level right (piece.x + i) piece.y c 0
  piece_unread beyond long =
      let unit = unit_of format.big level format is in
      let bytes_of : piece.n * format.texel_bytes ≡ piece.n * texel_bytes level.shape =
      ap (λ (n : ℕ). piece.n * n) unit in
      record {
        zero = λ _. refl;
        told = λ bytes told holds.
            let there = holds _ lies.block.is in
            absurd (omega (arith, there, lies.block.to, bytes_of, long bytes told, beyond));
      }

-- an error after successful reads
pub refused_after : {R E : Type 0} (keeps : R → R → Type 0) (refuses : R → E → R → Type 0)
    → ((a b c : R) → keeps a b → keeps b c → keeps a c)
    → (T U : Type 0) (a b c : R) (e : E) → keeps a b
    → AfterReads {T = T} keeps refuses b c (Err e) → AfterReads {T = U} keeps refuses a c (Err e)
refused_after keeps refuses chains T U a b c e kept left =
    (left.0, chains a b left.0 kept left.1, left.2)
