-- The texels of whole rows that follow each other are one run.
use Rattle.std.proofs.Common.{◌≡◌, ℕ, zero, suc, ◌+◌, ◌-◌, ◌*◌, ◌/◌, ◌%◌, ◌^◌, ◌<◌, ◌≤◌}
use Rattle.std.proofs.Common.{Option, Some, None, refl, ap, ◌∙◌, arith}
use Rattle.std.proofs.lemmas.Nat.{div-add-mod', mod-mul-add, mod_below}
use Rattle.tiff_format.specs.Block.{LevelShape, Level, sample_bytes, texel_bytes}
use Rattle.tiff_format.specs.Facts.{HasTileSides}
use Rattle.tiff_format.specs.Texel.{block_by, texels_before_by, sample_place}
use Rattle.tile_layout.specs.declared.piece.Piece.{Piece}
use Rattle.tiff_format.specs.declared.rect.Rect.{Rect}
use Rattle.tile_layout.specs.Pieces.{LiesOn, row_rest_by, row_rest, block_of}
use Rattle.tile_layout.specs.WholeRows.{block_width_by, block_width, block_rows_by, block_rows}
use Rattle.tile_layout.specs.WholeRows.{HasWholeRows, RowFollows, AreWholeRows, StandsWhole}
use Rattle.tile_layout.proofs.PlaceLemmas.{same_piece, place_in_piece, side_by_side, of_channel}
use Rattle.tile_layout.proofs.PlaceLemmas.{place_is}
use Rattle.tile_layout.proofs.BlockLemmas.{IsSound, lies_in_block, ends_below}

-- ---- a texel j rows down, in the same strip or tile

block_down : (shape : LevelShape) (tile : Option (ℕ × ℕ)) (x y j : ℕ)
    → y % block_rows_by shape tile + j < block_rows_by shape tile
    → block_by shape tile x (y + j) ≡ block_by shape tile x y
block_down shape None x y j down = same_piece y shape.rows_per_strip j down
block_down shape (Some tile) x y j down = rw (same_piece y tile.1 j down) refl

before_down : (shape : LevelShape) (tile : Option (ℕ × ℕ)) (x y j : ℕ)
    → y % block_rows_by shape tile + j < block_rows_by shape tile
    → texels_before_by shape tile x (y + j)
    ≡ texels_before_by shape tile x y + j * block_width_by shape tile
before_down shape None x y j down =
    rw (place_in_piece y shape.rows_per_strip j down) (omega arith)
before_down shape (Some tile) x y j down = rw (place_in_piece y tile.1 j down) (omega arith)

place_down : (level : Level) (x y j : ℕ) → level.shape.planes ≡ 1
    → y % block_rows level.shape + j < block_rows level.shape
    → sample_place level x (y + j) 0
    ≡ sample_place level x y 0 + j * (block_width level.shape * texel_bytes level.shape)
place_down level x y j one down =
    let tile = level.shape.tile in
    place_is level x (y + j) one
    ∙ rw (
      block_down level.shape tile x y j down,
      before_down level.shape tile x y j down,
      place_is level x y one,
    ) (omega arith)

-- ---- the first row of a strip or tile

-- the first row of the next block after row y
pub next_block : (y rows : ℕ) → 1 ≤ rows → (y + (rows - y % rows)) % rows ≡ 0
next_block y rows some =
    let at : y + (rows - y % rows) ≡ (y / rows + 1) * rows + 0 =
    omega (arith, div-add-mod' y rows, mod_below y rows some) in
    rw at (mod-mul-add (y / rows + 1) rows 0 some)

-- the first row of the next block after such a row
pub block_behind : (y rows : ℕ) → 1 ≤ rows → y % rows ≡ 0 → (y + rows) % rows ≡ 0
block_behind y rows some first =
    let at : y + rows ≡ (y / rows + 1) * rows + 0 = omega (arith, div-add-mod' y rows, first) in
    rw at (mod-mul-add (y / rows + 1) rows 0 some)

-- ---- a row of a strip or tile

-- has a texel at least
pub wide_by : (shape : LevelShape) (tile : Option (ℕ × ℕ)) → HasTileSides tile → 1 ≤ shape.width
    → 1 ≤ block_width_by shape tile
wide_by shape None sides wide = wide
wide_by shape (Some tile) sides wide = let is = sides tile refl in omega (arith, is.0.low)

-- a whole row is as long as its rest from its start on
whole_rest : (shape : LevelShape) (tile : Option (ℕ × ℕ)) (x w : ℕ)
    → x % block_width_by shape tile ≡ 0 → w ≡ block_width_by shape tile → x + w ≤ shape.width
    → w ≤ row_rest_by shape tile x
whole_rest shape None x w left wide on = omega arith
whole_rest shape (Some tile) x w left wide on = omega (arith, left)

module _ (level : Level) (rect : Rect) (is : IsSound level)
    (on : LiesOn level.shape.width level.shape.height rect)
    (each : HasWholeRows level.shape rect) where
  -- the row after row j follows it, if row j is row k of a block's rows from row `top` on
  pub follows_in_block : (top k j : ℕ) → rect.y + j ≡ top + k
      → top % block_rows level.shape + (k + 1) < block_rows level.shape → RowFollows level rect j
  follows_in_block top k j here down =
      let next : rect.y + (j + 1) ≡ top + (k + 1) = omega (arith, here) in
      rw (next, here, each.width) (omega (
        arith,
        place_down level rect.x top (k + 1) is.one down,
        place_down level rect.x top k is.one (omega (arith, down)),
      ))

  pub wide : 1 ≤ rect.w
  wide = omega (
    arith,
    each.width,
    wide_by level.shape level.shape.tile is.shape.tile (omega (arith, is.shape.width.low)),
  )

  rest : rect.w ≤ row_rest level.shape rect.x
  rest = whole_rest level.shape level.shape.tile rect.x rect.w each.left each.width on.across

  across : rect.x < level.shape.width
  across = omega (arith, on.across, wide)

  -- row j of the rectangle
  abbrev row : ℕ → Piece
  row j = record {
    at = sample_place level rect.x (rect.y + j) 0;
    x = rect.x;
    y = rect.y + j;
    n = rect.w;
  }

  pub row_ends : (j : ℕ) → j < rect.h
      → sample_place level rect.x (rect.y + j) 0 + rect.w * texel_bytes level.shape < 2 ^ 64
  row_ends j below =
      ends_below level (row j) is across (omega (arith, on.down)) refl rest

  -- ---- rows that follow each other

  module _ (some : 1 ≤ rect.h) (whole : AreWholeRows level rect) where
    abbrev at : ℕ
    at = sample_place level rect.x rect.y 0

    row_at : (j : ℕ) → j < rect.h
        → sample_place level rect.x (rect.y + j) 0 ≡ at + j * (rect.w * texel_bytes level.shape)
    row_at zero below = let first : rect.y + 0 ≡ rect.y = omega arith in rw first (omega arith)
    row_at (suc j) below =
        let next : suc j ≡ j + 1 = omega arith in
        rw next (omega (arith, whole.rows j (omega arith), row_at j (omega arith)))

    place_of : (i j c : ℕ) → i < rect.w → j < rect.h
        → sample_place level (rect.x + i) (rect.y + j) c
        ≡ at + (j * rect.w + i) * texel_bytes level.shape + c * sample_bytes level.shape.depth
    place_of i j c in_row below =
        of_channel level (rect.x + i) (rect.y + j) c is.one
        ∙ omega (
          arith,
          side_by_side level rect.x (rect.y + j) i is.one (omega (arith, rest)),
          row_at j below,
        )

    last_ends : at + rect.w * rect.h * texel_bytes level.shape
        ≡ sample_place level rect.x (rect.y + (rect.h - 1)) 0 + rect.w * texel_bytes level.shape
    last_ends =
        let rows : rect.h ≡ rect.h - 1 + 1 = omega arith in
        let all : rect.w * rect.h ≡ (rect.h - 1) * rect.w + rect.w =
        ap (λ n. rect.w * n) rows ∙ omega arith in
        rw (all, row_at (rect.h - 1) (omega arith)) (omega arith)

    pub stands_whole : StandsWhole level rect at
    stands_whole =
        let last = row (rect.h - 1) in
        let lies =
        lies_in_block level last is across (omega (arith, on.down)) refl rest in
        record {
          samples = place_of;
          inside = λ bytes holds.
              omega (arith, last_ends, lies.to, holds (block_of level.shape last) lies.is);
          ends = omega (arith, last_ends, row_ends (rect.h - 1) (omega arith));
        }
