-- Where the pieces of rows end in the file.
use Rattle.std.proofs.Common.{◌≡◌, ℕ, ◌+◌, ◌*◌, ◌<◌, ◌≤◌, sym, ap, ◌∙◌, arith}
use Rattle.std.proofs.Common.{List, ◌++◌, length, get_or, subst, zero-add}
use Rattle.std.proofs.Common.{length-append}
use Rattle.std.specs.List.{All}
use Rattle.std.proofs.lemmas.List.{get_or_append_left, get_or-append-add}
use Rattle.std.proofs.lemmas.List.Elements.{All-get_or, All-from_get_or}
use Rattle.std.proofs.lemmas.List.FromFn.{get_or-map-range_with_len}
use Rattle.std.proofs.lemmas.Nat.{mul-add-lt}
use Rattle.std.proofs.Math.Nat.{mul-le-mul_right}
use Rattle.tiff_format.specs.Block.{Level, texel_bytes}
use Rattle.tiff_format.specs.Texel.{sample_place}
use Rattle.tile_layout.specs.declared.piece.Piece.{Piece}
use Rattle.tiff_format.specs.declared.rect.Rect.{Rect}
use Rattle.tile_layout.specs.Pieces.{row_texels, LiesSideBySide, Walk, Takes}
use Rattle.tile_layout.specs.WholeRows.{StandsWhole}
use Rattle.tile_layout.proofs.TexelLemmas.{length-row_texels}
use Rattle.piece_samples.specs.Beyond.{columns_behind, piece_end}
use Rattle.piece_samples.proofs.PieceEnds.{end_of_piece}
use Rattle.rect_read.specs.Zeros.{AreZeros, AddsTexel, AddsTexels, LiesBeyond}
use Rattle.rect_read.proofs.ZeroTexels.{adds_split}

-- if a rectangle is one run that ends below a length, each of its pieces does
pub below_of_whole : (level : Level) (rect : Rect) (at len : ℕ) → StandsWhole level rect at
    → at + rect.w * rect.h * texel_bytes level.shape ≤ len → (i j : ℕ) → i < rect.w → j < rect.h
    → piece_end level (rect.x + rect.w) (rect.x + i) (rect.y + j) ≤ len
below_of_whole level rect at len whole low i j across down =
    let unit = texel_bytes level.shape in
    let more = columns_behind level (rect.x + rect.w) (rect.x + i) in
    let inside : i + more < rect.w = omega arith in
    let last : rect.x + i + more ≡ rect.x + (i + more) = omega arith in
    let place = whole.samples (i + more) j 0 inside down in
    let index = mul-add-lt j rect.w (i + more) rect.h down inside in
    let bytes : (j * rect.w + (i + more) + 1) * unit ≤ rect.w * rect.h * unit =
    mul-le-mul_right unit (omega (arith, index)) in
    let one : (j * rect.w + (i + more) + 1) * unit ≡ (j * rect.w + (i + more)) * unit + unit =
    omega arith in
    let there : sample_place level (rect.x + i + more) (rect.y + j) 0
    ≡ at + (j * rect.w + (i + more)) * unit =
    ap (λ (x : ℕ). sample_place level x (rect.y + j) 0) last ∙ place ∙ omega arith in
    omega (arith, there, bytes, one, low)

-- ---- the texels of a piece

module _ (level : Level) (right len : ℕ) (piece : Piece) (lies : LiesSideBySide level right piece)
  where
    abbrev texels : List (ℕ × ℕ)
    texels = row_texels piece.x piece.y piece.n

    abbrev piece_beyond : Type 0
    piece_beyond = len < piece.at + piece.n * texel_bytes level.shape

    texel_is : (j : ℕ) (d : ℕ × ℕ) → j < piece.n
        → get_or texels j d ≡ (piece.x + j, piece.y)
    texel_is j d below =
        get_or-map-range_with_len (λ i. (piece.x + i, piece.y)) 0 piece.n j j d below (zero-add j)

    -- each texel lies beyond the length if its piece does
    far_with_piece : (j : ℕ) (d : ℕ × ℕ) → j < piece.n
        → LiesBeyond level right len (get_or texels j d) → piece_beyond
    far_with_piece j d below far =
        omega (
          arith,
          subst (LiesBeyond level right len) (texel_is j d below) far,
          end_of_piece level right piece lies j below,
        )

    -- the numbers of the texels are those of a piece, all 0 if it lies beyond
    pub piece_adds : (n : ℕ) (old new : List ℕ) → AddsTexel piece_beyond (piece.n * n) old new
        → AddsTexels (LiesBeyond level right len) n texels old new
    piece_adds n old new some =
        let count : length texels ≡ piece.n = length-row_texels piece.x piece.y piece.n in
        let long : length some.added ≡ length texels * n =
        some.count ∙ ap (λ (k : ℕ). k * n) (sym count) in
        let zeros : All (λ t. LiesBeyond level right len t → AreZeros some.added) texels =
        All-from_get_or (λ t. LiesBeyond level right len t → AreZeros some.added) texels (0, 0)
        (λ j below far. some.zeros (far_with_piece j (0, 0) (omega (arith, below, count)) far)) in
        subst (λ (v : List ℕ). AddsTexels (LiesBeyond level right len) n texels old v)
        (sym some.behind) (adds_split (LiesBeyond level right len) n texels old some.added long zeros)

    -- if all texels to come lie beyond, so do the piece and the texels after it
    piece_far : (rest : List (ℕ × ℕ)) → All (LiesBeyond level right len) (texels ++ rest)
        → piece_beyond × All (LiesBeyond level right len) rest
    piece_far rest far =
        let count : length texels ≡ piece.n = length-row_texels piece.x piece.y piece.n in
        let P = LiesBeyond level right len in
        let all = texels ++ rest in
        let long : length all ≡ piece.n + length rest =
        length-append texels rest ∙ ap (λ (n : ℕ). n + length rest) count in
        let first : P (get_or texels 0 (0, 0)) =
        subst P (get_or_append_left texels rest (0, 0) 0 (omega (arith, count, lies.some)))
        (All-get_or P all 0 (0, 0) (omega (arith, long, lies.some)) far) in (
          far_with_piece 0 (0, 0) (omega (arith, lies.some)) first,
          All-from_get_or P rest (0, 0) (λ k below.
              subst P (get_or-append-add texels rest k (0, 0))
              (All-get_or P all (length texels + k) (0, 0) (omega (arith, long, count, below)) far)),
        )

-- a piece that is taken lies beyond if all texels to come do
pub taken_far : (old new : Walk) (piece : Piece) (level : Level) (right len : ℕ)
    → old.level ≡ level → old.right ≡ right → Takes old piece new
    → All (LiesBeyond level right len) old.texels
    → (len < piece.at + piece.n * texel_bytes level.shape)
    × All (LiesBeyond level right len) new.texels
taken_far old new piece level right len level_is right_is takes far =
    piece_far level right len piece (rw (level_is, right_is) at takes.lies) new.texels
    (subst (All (LiesBeyond level right len)) takes.texels far)
