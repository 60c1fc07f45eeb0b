-- Where the pieces of rows end in the file.
use Rattle.std.proofs.Common.{◌≡◌, ℕ, ◌+◌, ◌-◌, ◌*◌, ◌/◌, ◌%◌, ◌<◌, ap, ◌∙◌, arith}
use Rattle.std.proofs.Common.{Option, Some, None}
use Rattle.std.proofs.lemmas.Nat.{mod-mul-add, div-add-mod'}
use Rattle.tiff_format.specs.Block.{LevelShape, Level, texel_bytes}
use Rattle.tiff_format.specs.Texel.{sample_place}
use Rattle.tile_layout.specs.declared.piece.Piece.{Piece}
use Rattle.tile_layout.specs.Pieces.{row_rest_by, LiesSideBySide}
use Rattle.piece_samples.specs.Beyond.{columns_behind, piece_end}

-- each further column of a block's row has one column less after it
rest_behind : (shape : LevelShape) (tile : Option (ℕ × ℕ)) (x j : ℕ) → j < row_rest_by shape tile x
    → row_rest_by shape tile (x + j) ≡ row_rest_by shape tile x - j
rest_behind shape None x j below = omega arith
rest_behind shape (Some tile) x j below =
    let parts = div-add-mod' x tile.0 in
    let in_tile : x % tile.0 + j < tile.0 = omega arith in
    let sum : x + j ≡ x / tile.0 * tile.0 + (x % tile.0 + j) = omega (arith, parts) in
    let rest : (x + j) % tile.0 ≡ x % tile.0 + j =
    ap (λ (n : ℕ). n % tile.0) sum ∙ mod-mul-add (x / tile.0) tile.0 (x % tile.0 + j) in_tile in
    omega (arith, rest)

-- each texel of a piece has the end of the piece
pub end_of_piece : (level : Level) (right : ℕ) (piece : Piece) → LiesSideBySide level right piece
    → (j : ℕ) → j < piece.n
    → piece_end level right (piece.x + j) piece.y ≡ piece.at + piece.n * texel_bytes level.shape
end_of_piece level right piece lies j below =
    let unit = texel_bytes level.shape in
    let tile = level.shape.tile in
    let rest = rest_behind level.shape tile piece.x j (omega (arith, lies.long)) in
    let last : piece.x + j + columns_behind level right (piece.x + j) ≡ piece.x + (piece.n - 1) =
    omega (arith, lies.long, rest) in
    let place = lies.place (piece.n - 1) (omega (arith, lies.some)) in
    let all : (piece.n - 1) * unit + unit ≡ piece.n * unit =
    (let one : piece.n - 1 + 1 ≡ piece.n = omega (arith, lies.some) in
    let sum : (piece.n - 1) * unit + unit ≡ (piece.n - 1 + 1) * unit = omega arith in
    sum ∙ ap (λ (n : ℕ). n * unit) one) in
    ap (λ (x : ℕ). sample_place level x piece.y 0 + unit) last
    ∙ omega (arith, place, all)
