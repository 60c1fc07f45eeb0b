-- The values of the texels of a piece.
use Rattle.std.proofs.Common.{◌≡◌, ℕ, ◌+◌, ◌*◌, Bool, List, []}
use Rattle.std.proofs.Common.{◌∷◌, ◌++◌, length, map, sym, ap, ◌∙◌, arith, zero-add, refl}
use Rattle.std.specs.List.{range_with_len, flat_map}
use Rattle.tiff_format.specs.Block.{Level, sample_bytes}
use Rattle.tiff_format.specs.Bytes.{IsPartAt}
use Rattle.tiff_format.specs.Texel.{sample_in}
use Rattle.tile_layout.specs.declared.piece.Piece.{Piece}
use Rattle.tile_layout.specs.declared.texel_format.TexelFormat.{TexelFormat}
use Rattle.tile_layout.specs.FormatOf.{IsFormatOf}
use Rattle.tile_layout.specs.Pieces.{LiesSideBySide, row_texels}
use Rattle.piece_samples.specs.Unpacked.{unpacked}
use Rattle.piece_samples.proofs.PieceValues.{value_is}
use Rattle.rect_read.specs.Samples.{samples_at}
use Rattle.rect_read.proofs.Ranges.{flat_alike, map_alike, flat_rows}

pub flat_of_map : {A B C : Type 0} (f : B → List C) (g : A → B) (xs : List A)
    → flat_map f (map g xs) ≡ flat_map (λ x. f (g x)) xs
flat_of_map f g [] = refl
flat_of_map f g (x ∷ xs) = ap (λ r. f (g x) ++ r) (flat_of_map f g xs)

module _ (big : Bool) (bytes : List ℕ) (level : Level) (format : TexelFormat)
    (is : IsFormatOf big level.shape format) (right : ℕ) (piece : Piece)
    (lies : LiesSideBySide level right piece) (span : List ℕ)
    (part : IsPartAt bytes piece.at span)
    (long : length span ≡ sample_bytes level.shape.depth * (piece.n * level.shape.channels)) where
  -- the numbers of the span are those of the piece's texels
  pub piece_values : map (unpacked format span)
      (range_with_len 0 (piece.n * level.shape.channels))
      ≡ flat_map (samples_at big bytes level)
      (row_texels piece.x piece.y piece.n)
  piece_values =
      let value = unpacked format span in
      let values = samples_at big bytes level in
      let value_of_texel = value_is big bytes level format is piece.n piece.at
      (λ j. piece.x + j) (λ j. piece.y) (λ j c lt. lies.samples j c lt) span part long in
      let rows = flat_rows value level.shape.channels 0 piece.n in
      let zero-is : 0 * level.shape.channels ≡ 0 = omega arith in
      sym (flat_of_map values (λ j. (piece.x + j, piece.y)) (range_with_len 0 piece.n)
      ∙ flat_alike (λ j. values (piece.x + j, piece.y))
      (λ j. map (λ c. value (j * level.shape.channels + c)) (range_with_len 0 level.shape.channels))
      0 0 piece.n
      (λ j j-below. map_alike
      (λ c. sample_in big bytes level (piece.x + (0 + j)) piece.y c)
      (λ c. value ((0 + j) * level.shape.channels + c)) 0 0 level.shape.channels
      (λ c c-below. value_of_texel (0 + j) (0 + c) (rw zero-add j-below) (rw zero-add c-below)))
      ∙ rows
      ∙ ap (λ (k : ℕ). map value (range_with_len k (piece.n * level.shape.channels))) zero-is)
