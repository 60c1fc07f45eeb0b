-- The parts of a cell of a generated level: their keys and their rectangles.
use Rattle.std.proofs.Common.{◌≡◌, ℕ, ◌+◌, ◌-◌, ◌*◌, ◌/◌, ◌%◌, ◌^◌, ◌<◌, ◌≤◌, refl, sym, ap, ◌∙◌, arith}
use Rattle.std.proofs.Common.{subst}
use Rattle.std.proofs.Math.Nat.{mul-le-mul}
use Rattle.std.proofs.lemmas.Nat.{mul-add-lt, div-mul-add, mod-mul-add, mod_below, div_below}
use Rattle.tiff_format.specs.Level.{halved}
use Rattle.tiff_format.specs.declared.cut.Cut.{Cut}
use Rattle.tiff_format.specs.declared.rect.Rect.{Rect}
use Rattle.tile_layout.specs.Cell.{CutLevel, cell_count, cell_rect, cells_across, cells_down}
use Rattle.tile_layout.specs.Cell.{clipped, cut_level_in, number_of}
use Rattle.tile_layout.specs.declared.grid.Grid.{Grid}
use Rattle.tile_layout.specs.Grid.{shown_grid}
use Rattle.tile_layout.specs.Kept.{Kept}
use Rattle.tile_layout.specs.Texel.{clamped}
use Rattle.tile_layout.specs.Key.{generation_of, file_of, level_of, index_of, FitsKey, HasParts}
use Rattle.tile_layout.proofs.KeyLemmas.{HasParts-key_of}
use Rattle.tile_load.specs.Halving.{source_cut, rect_of, source_cell, first_column, part_columns}
use Rattle.tile_load.specs.Halving.{first_row, part_rows, part_count, part_index, part_key, IsPartOf}
use Rattle.tile_load.specs.declared.part_span.PartSpan.{PartSpan}
use Rattle.tile_load.specs.Halved.{IsHalvedKey, AreSpans, part_at}
use Rattle.tile_load.specs.PartPlace.{IsPartPlace, max_cell_samples}
use Rattle.tile_load.proofs.HalfSides.{some_parts, few_parts, is_cell, some_wide, ends, from_left}
use Rattle.tile_load.proofs.HalfSides.{to_right, part_low, part_high, holds_low, holds_high}
use Rattle.tile_load.proofs.HalfSides.{cell_ends, sources, within_side}

-- the rectangle of the cell in a column and a row of cells
rect_at : (level : CutLevel) (column row : ℕ) → column < cells_across level
    → cell_rect level (number_of level column row) ≡ record {
      x = column * level.cell_width;
      y = row * level.cell_height;
      w = clipped level.width (column * level.cell_width) level.cell_width;
      h = clipped level.height (row * level.cell_height) level.cell_height;
    }
unfolding cell_rect
rect_at level column row below =
    let across : number_of level column row % cells_across level ≡ column =
    mod-mul-add row (cells_across level) column below in
    let down : number_of level column row / cells_across level ≡ row =
    div-mul-add row (cells_across level) column below in
    rw (across, down) refl

-- a key's file and level fit its bits
file_fits : (key : ℕ) → file_of key < 2 ^ 12
unfolding file_of
file_fits key = mod_below (key / 2 ^ 32) (2 ^ 12) (omega arith)

level_fits : (key : ℕ) → level_of key < 2 ^ 5
unfolding level_of
level_fits key = mod_below (key / 2 ^ 27) (2 ^ 5) (omega arith)

module _ (layout : Kept) (cut : Cut) (key : ℕ) (is : IsHalvedKey layout cut key) where
  abbrev source : CutLevel
  source = source_cut layout cut key

  abbrev cell : Rect
  cell = rect_of layout cut key

  abbrev columns : ℕ
  columns = part_columns layout cut key

  abbrev rows : ℕ
  rows = part_rows layout cut key

  -- ---- how many there are

  pub columns_low : 1 ≤ columns
  columns_low = some_parts source.width source.cell_width cell.x cell.w is.across

  pub columns_high : columns ≤ 2
  columns_high = few_parts source.width source.cell_width cell.x cell.w is.across

  pub rows_low : 1 ≤ rows
  rows_low = some_parts source.height source.cell_height cell.y cell.h is.down

  pub rows_high : rows ≤ 2
  rows_high = few_parts source.height source.cell_height cell.y cell.h is.down

  pub count_low : 1 ≤ part_count layout cut key
  count_low = mul-le-mul columns_low rows_low

  pub count_high : part_count layout cut key ≤ 4
  count_high = mul-le-mul columns_high rows_high

  -- ---- part k

  module _ (k : ℕ) (below : k < part_count layout cut key) where
    abbrev p : ℕ
    p = first_column layout cut key + k % columns

    abbrev q : ℕ
    q = first_row layout cut key + k / columns

    p_low : first_column layout cut key ≤ p
    p_low = omega arith

    p_high : p < first_column layout cut key + columns
    p_high = omega (arith, mod_below k columns columns_low)

    q_low : first_row layout cut key ≤ q
    q_low = omega arith

    q_high : q < first_row layout cut key + rows
    q_high =
        let turned : k < rows * columns = omega (arith, below) in
        omega (arith, div_below k columns rows columns_low turned)

    pub column_is : p < cells_across source
    column_is = is_cell source.width source.cell_width cell.x cell.w is.across p p_low p_high

    pub row_is : q < cells_down source
    row_is = is_cell source.height source.cell_height cell.y cell.h is.down q q_low q_high

    pub index_is : part_index layout cut key k < cell_count source
    index_is = mul-add-lt q (cells_across source) p (cells_down source) row_is column_is

    pub part_fits : FitsKey (generation_of key) (file_of key) (level_of key - 1)
        (part_index layout cut key k)
    part_fits = record {
      generation_low = is.is_key.low;
      generation_high = is.is_key.high;
      file_high = file_fits key;
      level_high = omega (arith, level_fits key);
      index_high = omega (arith, index_is, is.few);
    }

    pub parts_are : HasParts (generation_of key) (file_of key) (level_of key - 1)
        (part_index layout cut key k) (part_key layout cut key k)
    parts_are = HasParts-key_of _ _ _ _ part_fits

    pub is_part : IsPartOf layout cut key (part_key layout cut key k)
    is_part = record {
      generation = parts_are.generation_is;
      file = parts_are.file_is;
      level = parts_are.level_is;
      index = rw (parts_are.level_is, parts_are.index_is) index_is;
    }

    -- the rectangle of the part
    abbrev pub part_rect : Rect
    part_rect = record {
      x = p * source.cell_width;
      y = q * source.cell_height;
      w = clipped source.width (p * source.cell_width) source.cell_width;
      h = clipped source.height (q * source.cell_height) source.cell_height;
    }

    pub part_rect_is : cell_rect (cut_level_in layout cut (level_of (part_key layout cut key k)))
        (index_of (part_key layout cut key k)) ≡ part_rect
    part_rect_is =
        ap (λ (l : ℕ). cell_rect (cut_level_in layout cut l)
        (index_of (part_key layout cut key k))) parts_are.level_is
        ∙ ap (cell_rect source) parts_are.index_is
        ∙ rect_at source p q column_is

    -- half of it lies in the cell
    pub part_place : (n : ℕ) → cell.w * cell.h * n ≤ max_cell_samples
        → IsPartPlace part_rect cell n
    part_place n few =
        let wide = is.across in
        let high = is.down in
        record {
          wide = some_wide source.width source.cell_width cell.x cell.w wide p p_low p_high;
          high = some_wide source.height source.cell_height cell.y cell.h high q q_low q_high;
          left = from_left source.width source.cell_width cell.x cell.w wide p p_low p_high;
          right = to_right source.width source.cell_width cell.x cell.w wide p p_low p_high;
          top = from_left source.height source.cell_height cell.y cell.h high q q_low q_high;
          bottom = to_right source.height source.cell_height cell.y cell.h high q q_low q_high;
          cell_across = cell_ends source.width source.cell_width cell.x cell.w wide;
          cell_down = cell_ends source.height source.cell_height cell.y cell.h high;
          part_across =
              let high = wide.high in
              omega (arith, ends source.width source.cell_width cell.x cell.w wide p p_low p_high);
          part_down =
              let top = high.high in
              omega (arith, ends source.height source.cell_height cell.y cell.h high q q_low q_high);
          few = few;
        }

    -- the sources of a part's texels lie in the part
    pub sources_across : (i x : ℕ) → i < halved part_rect.w → x ≡ part_rect.x / 2 + i
        → (clamped source.width (2 * x) ≡ part_rect.x + clamped part_rect.w (2 * i))
        × (clamped source.width (2 * x + 1) ≡ part_rect.x + clamped part_rect.w (2 * i + 1))
    sources_across =
        sources source.width source.cell_width cell.x cell.w is.across p p_low p_high

    pub sources_down : (j y : ℕ) → j < halved part_rect.h → y ≡ part_rect.y / 2 + j
        → (clamped source.height (2 * y) ≡ part_rect.y + clamped part_rect.h (2 * j))
        × (clamped source.height (2 * y + 1) ≡ part_rect.y + clamped part_rect.h (2 * j + 1))
    sources_down =
        sources source.height source.cell_height cell.y cell.h is.down q q_low q_high

  -- ---- the part of a texel

  module _ (x y : ℕ) (left : cell.x ≤ x) (right : x < cell.x + cell.w) (top : cell.y ≤ y)
      (bottom : y < cell.y + cell.h) where
    abbrev column_of : ℕ
    column_of = source_cell source.width source.cell_width x

    abbrev row_of : ℕ
    row_of = source_cell source.height source.cell_height y

    column_low : first_column layout cut key ≤ column_of
    column_low = part_low source.width source.cell_width cell.x cell.w is.across x left right

    column_high : column_of - first_column layout cut key < columns
    column_high =
        let high = part_high source.width source.cell_width cell.x cell.w is.across x left right in
        let low = column_low in
        omega arith

    row_low : first_row layout cut key ≤ row_of
    row_low = part_low source.height source.cell_height cell.y cell.h is.down y top bottom

    row_high : row_of - first_row layout cut key < rows
    row_high =
        let high = part_high source.height source.cell_height cell.y cell.h is.down y top bottom in
        let low = row_low in
        omega arith

    -- the index is that of one of the parts
    pub at_below : part_at layout cut key x y < part_count layout cut key
    at_below = mul-add-lt (row_of - first_row layout cut key) columns
        (column_of - first_column layout cut key) rows row_high column_high

    -- half of the part contains the texel
    module _ (k : ℕ) (at : part_at layout cut key x y ≡ k) where
      p_is : first_column layout cut key + k % columns ≡ column_of
      p_is =
          let own : k % columns ≡ column_of - first_column layout cut key =
          ap (λ (n : ℕ). n % columns) (sym at)
          ∙ mod-mul-add (row_of - first_row layout cut key) columns
          (column_of - first_column layout cut key) column_high in
          let low = column_low in
          omega arith

      q_is : first_row layout cut key + k / columns ≡ row_of
      q_is =
          let own : k / columns ≡ row_of - first_row layout cut key =
          ap (λ (n : ℕ). n / columns) (sym at)
          ∙ div-mul-add (row_of - first_row layout cut key) columns
          (column_of - first_column layout cut key) column_high in
          let low = row_low in
          omega arith

      pub held_left :
          (first_column layout cut key + k % columns) * source.cell_width / 2 ≤ x
      held_left =
          rw p_is (holds_low source.width source.cell_width cell.x cell.w is.across x left right)

      pub held_right :
          x < (first_column layout cut key + k % columns) * source.cell_width / 2
          + halved (clipped source.width
          ((first_column layout cut key + k % columns) * source.cell_width) source.cell_width)
      held_right =
          rw p_is (holds_high source.width source.cell_width cell.x cell.w is.across x left right)

      pub held_top :
          (first_row layout cut key + k / columns) * source.cell_height / 2 ≤ y
      held_top =
          rw q_is (holds_low source.height source.cell_height cell.y cell.h is.down y top bottom)

      pub held_bottom :
          y < (first_row layout cut key + k / columns) * source.cell_height / 2
          + halved (clipped source.height
          ((first_row layout cut key + k / columns) * source.cell_height) source.cell_height)
      held_bottom =
          rw q_is (holds_high source.height source.cell_height cell.y cell.h is.down y top bottom)

-- ---- the spans of the code

module _ (layout : Kept) (cut : Cut) (key : ℕ) (across down : PartSpan)
    (are : AreSpans layout cut key across down) where
  pub spans_count : across.count * down.count ≡ part_count layout cut key
  spans_count =
      ap (λ (k : ℕ). k * down.count) are.columns
      ∙ ap (λ (k : ℕ). part_columns layout cut key * k) are.rows

  pub span_column : (k : ℕ) → across.first + k % across.count
      ≡ first_column layout cut key + k % part_columns layout cut key
  span_column k =
      ap (λ (n : ℕ). n + k % across.count) are.first_column
      ∙ ap (λ (n : ℕ). first_column layout cut key + k % n) are.columns

  pub span_row : (k : ℕ) → down.first + k / across.count
      ≡ first_row layout cut key + k / part_columns layout cut key
  span_row k =
      ap (λ (n : ℕ). n + k / across.count) are.first_row
      ∙ ap (λ (n : ℕ). first_row layout cut key + k / n) are.columns

  -- the number of the cell in their column and row
  pub span_index : (level : CutLevel) (k : ℕ) → level ≡ source_cut layout cut key
      → number_of level (across.first + k % across.count) (down.first + k / across.count)
      ≡ part_index layout cut key k
  span_index level k is =
      ap (λ (l : CutLevel). number_of l (across.first + k % across.count)
      (down.first + k / across.count)) is
      ∙ ap (λ (p : ℕ). number_of (source_cut layout cut key) p (down.first + k / across.count))
      (span_column k)
      ∙ ap (λ (q : ℕ). number_of (source_cut layout cut key)
      (first_column layout cut key + k % part_columns layout cut key) q) (span_row k)

-- the cells of a grid
pub grid_columns : (grid : Grid) (level : CutLevel) → shown_grid grid ≡ level
    → grid.across.cells ≡ cells_across level
grid_columns grid level is =
    grid.across.in_range.cover ∙ ap (λ (l : CutLevel). cells_across l) is

pub grid_rows : (grid : Grid) (level : CutLevel) → shown_grid grid ≡ level
    → grid.down.cells ≡ cells_down level
grid_rows grid level is =
    grid.down.in_range.cover ∙ ap (λ (l : CutLevel). cells_down l) is

-- the cell lies on the sides of the level before
module _ (layout : Kept) (cut : Cut) (key : ℕ) (is : IsHalvedKey layout cut key) (grid : Grid)
    (rect : Rect) (source_is : shown_grid grid ≡ source_cut layout cut key)
    (rect_is : rect ≡ rect_of layout cut key) where
  pub grid_across : rect.x + rect.w ≤ grid.across.size
  grid_across =
      subst (λ (r : Rect). r.x + r.w ≤ grid.across.size) (sym rect_is)
      (subst (λ (l : CutLevel). (rect_of layout cut key).x + (rect_of layout cut key).w ≤ l.width)
      (sym source_is)
      (within_side (source_cut layout cut key).width (source_cut layout cut key).cell_width
      (rect_of layout cut key).x (rect_of layout cut key).w is.across))

  pub grid_down : rect.y + rect.h ≤ grid.down.size
  grid_down =
      subst (λ (r : Rect). r.y + r.h ≤ grid.down.size) (sym rect_is)
      (subst (λ (l : CutLevel). (rect_of layout cut key).y + (rect_of layout cut key).h ≤ l.height)
      (sym source_is)
      (within_side (source_cut layout cut key).height (source_cut layout cut key).cell_height
      (rect_of layout cut key).y (rect_of layout cut key).h is.down))
