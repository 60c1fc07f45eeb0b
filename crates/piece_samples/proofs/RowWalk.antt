-- A walk over the pieces of a row.
use Rattle.std.proofs.Common.{◌≡◌, ℕ, ◌+◌, ◌-◌, ◌*◌, ◌<◌, ◌≤◌, Bool, List, [], ◌++◌, length, get_or}
use Rattle.std.proofs.Common.{Option, refl, sym, ap, ◌∙◌, arith, length-append, zero-add, add-zero}
use Rattle.std.proofs.lemmas.List.{append_cancel_left, append-nil, get_or_append_left}
use Rattle.std.proofs.lemmas.List.FromFn.{get_or-map-range_with_len}
use Rattle.tiff_format.specs.Block.{LevelShape, Level, texel_bytes}
use Rattle.tile_layout.specs.FormatOf.{IsFormatOf}
use Rattle.tile_layout.specs.declared.piece.Piece.{Piece}
use Rattle.tile_layout.specs.declared.texel_format.TexelFormat.{TexelFormat}
use Rattle.tile_layout.specs.Pieces.{row_texels, rect_texels, LiesSideBySide}
use Rattle.tile_layout.proofs.TexelLemmas.{row_split, length-row_texels}
use Rattle.piece_samples.specs.Beyond.{IsBeyond, IsPlaneBeyond}
use Rattle.piece_samples.specs.TexelRow.{IsReadSample, row_rect}
use Rattle.piece_samples.proofs.PieceEnds.{end_of_piece}

-- the texels of a row are those of its rectangle
pub row_of_rect : (x y n : ℕ) → rect_texels (row_rect x y n) ≡ row_texels x y n
row_of_rect x y n = append-nil (row_texels x y n)

first_texel : (x y n : ℕ) (d : ℕ × ℕ) → 1 ≤ n → get_or (row_texels x y n) 0 d ≡ (x, y)
first_texel x y n d some =
    get_or-map-range_with_len (λ j. (x + j, y)) 0 n 0 0 d (omega arith) (zero-add 0)
    ∙ ap (λ (k : ℕ). (k, y)) (add-zero x)

-- a piece of a row of m texels from (x, y) on, which leaves others
pub record TakesFromRow (x y m : ℕ) (piece : Piece) (others : List (ℕ × ℕ)) : Type 0 where
  pub column : piece.x ≡ x
  pub row : piece.y ≡ y
  pub fits : piece.n ≤ m
  pub rest : others ≡ row_texels (x + piece.n) y (m - piece.n)

pub takes_from_row : (x y m : ℕ) (piece : Piece) (others : List (ℕ × ℕ)) → 1 ≤ piece.n
    → row_texels x y m ≡ row_texels piece.x piece.y piece.n ++ others
    → TakesFromRow x y m piece others
takes_from_row x y m piece others some is =
    let own = row_texels piece.x piece.y piece.n in
    let count : length own ≡ piece.n = length-row_texels piece.x piece.y piece.n in
    let long : m ≡ piece.n + length others =
    sym (length-row_texels x y m) ∙ ap length is ∙ length-append own others
    ∙ ap (λ (k : ℕ). k + length others) count in
    let first : (piece.x, piece.y) ≡ (x, y) =
    sym (first_texel piece.x piece.y piece.n (0, 0) some)
    ∙ sym (get_or_append_left own others (0, 0) 0 (omega (arith, count, some)))
    ∙ ap (λ (l : List (ℕ × ℕ)). get_or l 0 (0, 0)) (sym is)
    ∙ first_texel x y m (0, 0) (omega (arith, long, some)) in
    let column : piece.x ≡ x = ap (λ (t : ℕ × ℕ). t.0) first in
    let row : piece.y ≡ y = ap (λ (t : ℕ × ℕ). t.1) first in
    let left : m ≡ piece.n + (m - piece.n) = omega (arith, long) in
    let split : row_texels x y m ≡ own ++ row_texels (x + piece.n) y (m - piece.n) =
    ap (λ (k : ℕ). row_texels x y k) left ∙ row_split x y piece.n (m - piece.n)
    ∙ ap (λ (l : List (ℕ × ℕ)). l ++ row_texels (x + piece.n) y (m - piece.n))
    (ap (λ (k : ℕ). row_texels k y piece.n) (sym column)
    ∙ ap (λ (k : ℕ). row_texels piece.x k piece.n) (sym row)) in
    record {
      column = column;
      row = row;
      fits = omega (arith, long);
      rest = append_cancel_left own others (row_texels (x + piece.n) y (m - piece.n))
          (sym is ∙ split);
    }

-- ---- what was read

-- what is read by one reader is read by another of the same bytes, and of an equal texel
pub same_read : (len more : ℕ) (held told : Option (List ℕ)) (big : Bool) (level : Level)
    (right x column y row c value other : ℕ) → len ≡ more → held ≡ told → x ≡ column → y ≡ row
    → value ≡ other → IsReadSample len held big level right x y c value
    → IsReadSample more told big level right column row c other
same_read len more held told big level right x column y row c value other sizes bytes xs ys values
    is = rw (sizes, bytes, xs, ys, values) at is

-- the byte order that the format has
pub own_order : (big : Bool) (shape : LevelShape) (format : TexelFormat) → IsFormatOf big shape format
    → IsFormatOf format.big shape format
own_order big shape format is = record {
  one = is.one;
  depth = is.depth;
  order = refl;
  channels = is.channels;
  invert = is.invert;
}

-- if every piece of a row lies beyond a length, so does each piece that is taken
pub piece_beyond : (level : Level) (len x y n done : ℕ) (piece : Piece)
    → IsPlaneBeyond level len (row_rect x y n) → LiesSideBySide level (x + n) piece → done < n
    → piece.x ≡ x + done → piece.y ≡ y → len < piece.at + piece.n * texel_bytes level.shape
piece_beyond level len x y n done piece far lies below column row =
    let there : IsBeyond level (x + n) len (x + done) (y + 0) = far done 0 below (omega arith) in
    let first : piece.x + 0 ≡ x + done = add-zero piece.x ∙ column in
    let down : piece.y ≡ y + 0 = row ∙ sym (add-zero y) in
    let ends = end_of_piece level (x + n) piece lies 0 (omega (arith, lies.some)) in
    rw (rw (first, down) at ends) at there

-- a walk that leaves no texel is at the end of its row
pub row_ends : (x y n done : ℕ) (left : List (ℕ × ℕ)) → done ≤ n
    → left ≡ row_texels (x + done) y (n - done) → left ≡ [] → done ≡ n
row_ends x y n done left low is none =
    let long : n - done ≡ 0 =
    sym (length-row_texels (x + done) y (n - done)) ∙ ap length (sym is ∙ none) in
    omega (arith, long)
