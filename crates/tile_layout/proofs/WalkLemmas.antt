-- A walk over a rectangle goes on by a piece.
use Rattle.std.proofs.Common.{◌≡◌, ℕ, ◌+◌, ◌<◌, ◌≤◌, ◌++◌, length, Some, refl, ap}
use Rattle.std.proofs.Common.{◌∙◌, arith, length-append}
use Rattle.std.specs.Prelude.{⊤}
use Rattle.std.specs.Iterator.{at_most, MakesProgress}
use Rattle.tiff_format.specs.Block.{Level}
use Rattle.tile_layout.specs.declared.piece.Piece.{Piece}
use Rattle.tiff_format.specs.declared.rect.Rect.{Rect}
use Rattle.tile_layout.specs.Pieces.{Walk, Takes, LiesSideBySide, row_texels}
use Rattle.tile_layout.specs.Walk.{walk_at}
use Rattle.tile_layout.proofs.TexelLemmas.{piece_taken, row_done, length-row_texels}

module _ (level : Level) (rect : Rect) (x y : ℕ) (piece : Piece) (column : piece.x ≡ x)
    (row : piece.y ≡ y) (fits : x + piece.n ≤ rect.x + rect.w) (below : y < rect.y + rect.h)
    (lies : LiesSideBySide level (rect.x + rect.w) piece) where
  -- to a texel of the same row
  pub goes_on : Takes (walk_at level rect x y) piece (walk_at level rect (x + piece.n) y)
  goes_on = record {
    texels = piece_taken rect.x (rect.x + rect.w) (rect.y + rect.h) x y piece.n fits below
        ∙ rw (column, row) refl;
    lies = lies;
    level = refl;
    right = refl;
  }

  -- to the next row
  pub turns : x + piece.n ≡ rect.x + rect.w
      → Takes (walk_at level rect x y) piece (walk_at level rect rect.x (y + 1))
  turns done = record {
    texels = goes_on.texels ∙ ap (λ texels. row_texels piece.x piece.y piece.n ++ texels)
        (row_done rect.x (rect.x + rect.w) (rect.y + rect.h) (x + piece.n) y done below);
    lies = lies;
    level = refl;
    right = refl;
  }

-- the texels of the piece and those that are left
pub length_taken : (old : Walk) (piece : Piece) (new : Walk) → Takes old piece new
    → length old.texels ≡ piece.n + length new.texels
length_taken old piece new takes =
    ap length takes.texels
    ∙ length-append (row_texels piece.x piece.y piece.n) new.texels
    ∙ ap (λ n. n + length new.texels) (length-row_texels piece.x piece.y piece.n)

pub progress : (old : Walk) (piece : Piece) (new : Walk) → Takes old piece new
    → MakesProgress (λ (_ : Walk). ⊤) (λ (walk : Walk). at_most (length walk.texels)) old
    (Some piece) new
progress old piece new takes = record {
  on = λ finite. (tt, tt, omega (arith, takes.lies.some, length_taken old piece new takes));
  keeps = tt;
  rests = λ finite. tt;
}
