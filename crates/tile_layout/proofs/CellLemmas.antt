-- The cells of a level: which holds a texel, and how large they are.
use Rattle.std.proofs.Common.{◌≡◌, ℕ, ◌*◌, ◌/◌, ◌%◌, ◌<◌, ◌≤◌, min, ap}
use Rattle.std.proofs.Common.{arith}
use Rattle.std.proofs.Math.Nat.{mul-le-mul, mul-le-mul_left, zero-div, zero-mod, one-le-mul}
use Rattle.std.proofs.lemmas.Nat.{mod_below, mul-add-lt, div-mul-add, mod-mul-add, div-add-mod'}
use Rattle.tiff_format.specs.Block.{pieces_over}
use Rattle.tile_layout.specs.Cell.{CutLevel, cells_across, cells_down, cell_count, cell_index}
use Rattle.tile_layout.specs.Cell.{cell_rect, HoldsTexel, CellsFitOn}
use Rattle.tile_layout.specs.Cell.{max_cell_bytes}
use Rattle.tile_layout.proofs.BlockLemmas.{piece_below}

-- both sides have cells
pub record HasCells (level : CutLevel) : Type 0 where
  pub cell_width : 1 ≤ level.cell_width
  pub cell_height : 1 ≤ level.cell_height

-- ---- the cell of a texel

module _ (level : CutLevel) (has : HasCells level) (x y : ℕ) (across : x < level.width)
    (down : y < level.height) where
  row_below : y / level.cell_height < cells_down level
  row_below = piece_below level.height level.cell_height y has.cell_height down

  column_below : x / level.cell_width < cells_across level
  column_below = piece_below level.width level.cell_width x has.cell_width across

  pub index_below : cell_index level x y < cell_count level
  unfolding cell_index
  index_below =
      mul-add-lt (y / level.cell_height) (cells_across level) (x / level.cell_width)
      (cells_down level) row_below column_below

  -- the cell's column and row
  column_is : cell_index level x y % cells_across level ≡ x / level.cell_width
  unfolding cell_index
  column_is =
      mod-mul-add (y / level.cell_height) (cells_across level) (x / level.cell_width) column_below

  row_is : cell_index level x y / cells_across level ≡ y / level.cell_height
  unfolding cell_index
  row_is =
      div-mul-add (y / level.cell_height) (cells_across level) (x / level.cell_width) column_below

  pub holds_texel : HoldsTexel (cell_rect level (cell_index level x y)) x y
  unfolding cell_rect
  holds_texel =
      let w = level.cell_width in
      let h = level.cell_height in
      let left = ap (λ n. n * w) column_is in
      let top = ap (λ n. n * h) row_is in
      let x_parts = div-add-mod' x w in
      let y_parts = div-add-mod' y h in
      let x_rest = mod_below x w has.cell_width in
      let y_rest = mod_below y h has.cell_height in
      record {
        left = omega (arith, left, x_parts);
        right = omega (arith, left, x_parts, x_rest);
        top = omega (arith, top, y_parts);
        bottom = omega (arith, top, y_parts, y_rest);
      }

-- ---- the largest

-- the bytes of the first cell
abbrev pub first_bytes : ℕ → CutLevel → ℕ
first_bytes channels level =
    2 * channels * min level.cell_width level.width * min level.cell_height level.height

-- a rectangle of sides no longer has no more bytes
no_more : (channels w h v u : ℕ) → w ≤ v → h ≤ u → 2 * channels * w * h ≤ 2 * channels * v * u
no_more channels w h v u narrow low =
    mul-le-mul (mul-le-mul_left (2 * channels) narrow) low

pub fits_by_first : (channels : ℕ) (level : CutLevel) → first_bytes channels level ≤ max_cell_bytes
    → CellsFitOn channels level
unfolding cell_rect
fits_by_first channels level fits = λ i below.
    omega (
      arith,
      no_more channels (cell_rect level i).w (cell_rect level i).h
          (min level.cell_width level.width) (min level.cell_height level.height)
          (omega arith) (omega arith),
    )

-- a side has a cell
first_cell : (side cell : ℕ) → 1 ≤ side → 1 ≤ cell → 1 ≤ pieces_over side cell
first_cell side cell some is =
    omega (arith, zero-div cell, piece_below side cell 0 is some)

pub first_fits : (channels : ℕ) (level : CutLevel) → HasCells level → 1 ≤ level.width
    → 1 ≤ level.height → CellsFitOn channels level → first_bytes channels level ≤ max_cell_bytes
unfolding cell_rect
first_fits channels level has wide high fit =
    let columns = cells_across level in
    let column : 0 % columns * level.cell_width ≡ 0 =
    rw (zero-mod columns) (omega arith) in
    let row : 0 / columns * level.cell_height ≡ 0 = rw (zero-div columns) (omega arith) in
    let some : 0 < cell_count level =
    one-le-mul
    (first_cell level.width level.cell_width wide has.cell_width)
    (first_cell level.height level.cell_height high has.cell_height) in
    let w : (cell_rect level 0).w ≡ min level.cell_width level.width = omega (arith, column) in
    let h : (cell_rect level 0).h ≡ min level.cell_height level.height = omega (arith, row) in
    rw (w, h) at (fit 0 some)
