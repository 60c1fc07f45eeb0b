-- Where the texels of a row are in the file.
use Rattle.std.proofs.Common.{◌≡◌, ℕ, ◌+◌, ◌*◌, ◌/◌, ◌%◌, ◌<◌, Option, Some, None, get_or, refl}
use Rattle.std.proofs.Common.{ap, ◌∙◌, arith}
use Rattle.std.proofs.lemmas.Nat.{div-mul-add, mod-mul-add, div-add-mod'}
use Rattle.tiff_format.specs.Block.{LevelShape, Level, pieces_over, plane_blocks, sample_bytes}
use Rattle.tiff_format.specs.Block.{texel_bytes}
use Rattle.tiff_format.specs.Texel.{block_by, block_index, texels_before_by, texels_before}
use Rattle.tiff_format.specs.Texel.{sample_place}
use Rattle.tile_layout.specs.Pieces.{row_rest_by, row_rest}

-- ---- one side, cut into pieces

-- j places on, in the same piece
pub same_piece : (x piece j : ℕ) → x % piece + j < piece → (x + j) / piece ≡ x / piece
same_piece x piece j fits =
    let e : x + j ≡ x / piece * piece + (x % piece + j) = omega (arith, div-add-mod' x piece) in
    rw e (div-mul-add (x / piece) piece (x % piece + j) fits)

pub place_in_piece : (x piece j : ℕ) → x % piece + j < piece → (x + j) % piece ≡ x % piece + j
place_in_piece x piece j fits =
    let e : x + j ≡ x / piece * piece + (x % piece + j) = omega (arith, div-add-mod' x piece) in
    rw e (mod-mul-add (x / piece) piece (x % piece + j) fits)

-- ---- n texels side by side

before_more : (shape : LevelShape) (tile : Option (ℕ × ℕ)) (x y j : ℕ)
    → j < row_rest_by shape tile x
    → texels_before_by shape tile (x + j) y ≡ texels_before_by shape tile x y + j
before_more shape None x y j lt = omega arith
before_more shape (Some tile) x y j lt =
    omega (arith, place_in_piece x tile.0 j (omega arith))

same_block : (shape : LevelShape) (tile : Option (ℕ × ℕ)) (x y j : ℕ)
    → j < row_rest_by shape tile x
    → block_by shape tile (x + j) y ≡ block_by shape tile x y
same_block shape None x y j lt = refl
same_block shape (Some tile) x y j lt =
    ap (λ k. y / tile.1 * pieces_over shape.width tile.0 + k) (same_piece x tile.0 j (omega arith))

-- in a level of one plane, the place of a sample from its block's
place_by : (level : Level) (x y c : ℕ) → level.shape.planes ≡ 1 → sample_place level x y c
    ≡ get_or level.offsets (block_index level.shape x y) 0
    + (texels_before level.shape x y * level.shape.channels + c) * sample_bytes level.shape.depth
unfolding sample_place
place_by level x y c one =
    let first : 0 * plane_blocks level.shape + block_index level.shape x y
    ≡ block_index level.shape x y = omega arith in
    rw one (ap (λ (m : ℕ). get_or level.offsets m 0
    + (texels_before level.shape x y * level.shape.channels + c) * sample_bytes level.shape.depth)
    first)

-- the bytes of a texel of such a level
pub bytes_by : (shape : LevelShape) → shape.planes ≡ 1
    → texel_bytes shape ≡ shape.channels * sample_bytes shape.depth
bytes_by shape one = rw one refl

-- the place of the first sample of a texel
pub place_is : (level : Level) (x y : ℕ) → level.shape.planes ≡ 1 → sample_place level x y 0
    ≡ get_or level.offsets (block_index level.shape x y) 0
    + texels_before level.shape x y * texel_bytes level.shape
place_is level x y one =
    place_by level x y 0 one ∙ rw (bytes_by level.shape one) (omega arith)

pub side_by_side : (level : Level) (x y j : ℕ) → level.shape.planes ≡ 1
    → j < row_rest level.shape x
    → sample_place level (x + j) y 0 ≡ sample_place level x y 0 + j * texel_bytes level.shape
side_by_side level x y j one lt =
    rw (
      place_is level (x + j) y one,
      place_is level x y one,
      same_block level.shape level.shape.tile x y j lt,
      before_more level.shape level.shape.tile x y j lt,
    ) (omega arith)

-- the samples of a texel, too
pub of_channel : (level : Level) (x y c : ℕ) → level.shape.planes ≡ 1
    → sample_place level x y c ≡ sample_place level x y 0 + c * sample_bytes level.shape.depth
of_channel level x y c one =
    rw (place_by level x y c one, place_by level x y 0 one) (omega arith)
