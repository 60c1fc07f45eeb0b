-- Which cells is a cell of a generated level made from? (docs/FORMAT.md, "The texels of generated
-- levels" and "Cells")
--
-- Its parts are the cells of the next larger level that hold a source texel. They lie side by side,
-- one or two across and down, and are numbered row by row from 0.
use Rattle.std.specs.Prelude.{◌≡◌, ℕ, ◌+◌, ◌-◌, ◌*◌, ◌/◌, ◌%◌, ◌<◌, ◌≤◌}
use Rattle.file_table.specs.Record.{RecordState}
use Rattle.tiff_format.specs.declared.cut.Cut.{Cut}
use Rattle.tiff_format.specs.declared.rect.Rect.{Rect}
use Rattle.tile_layout.specs.Cell.{CutLevel, cell_count, cell_rect, cut_level_in, number_of}
use Rattle.tile_layout.specs.Key.{key_of, generation_of, file_of, level_of, index_of}
use Rattle.tile_layout.specs.Kept.{Kept, stored_count}
use Rattle.tile_layout.specs.Level.{level_count_in}
use Rattle.tile_layout.specs.Texel.{clamped}

-- ---- along a side of the next larger level

-- the index of the cell, of this many texels, that holds the first source texel of a place
abbrev pub source_cell : ℕ → ℕ → ℕ → ℕ
source_cell side cell place = clamped side (2 * place) / cell

-- how many cells hold the first source texel of one of n places
abbrev pub source_cells : ℕ → ℕ → ℕ → ℕ → ℕ
source_cells side cell from n =
    source_cell side cell (from + n - 1) + 1 - source_cell side cell from

-- ---- for a cell, given by its key

-- how the level is divided into cells
abbrev pub level_cut : Kept → Cut → ℕ → CutLevel
level_cut layout cut key = cut_level_in layout cut (level_of key)

-- how the next larger level is divided into cells
abbrev pub source_cut : Kept → Cut → ℕ → CutLevel
source_cut layout cut key = cut_level_in layout cut (level_of key - 1)

-- the rectangle of the cell
abbrev pub rect_of : Kept → Cut → ℕ → Rect
rect_of layout cut key = cell_rect (level_cut layout cut key) (index_of key)

-- the first column of cells with a part, and how many columns there are
abbrev pub first_column : Kept → Cut → ℕ → ℕ
first_column layout cut key =
    source_cell (source_cut layout cut key).width (source_cut layout cut key).cell_width
    (rect_of layout cut key).x

abbrev pub part_columns : Kept → Cut → ℕ → ℕ
part_columns layout cut key =
    source_cells (source_cut layout cut key).width (source_cut layout cut key).cell_width
    (rect_of layout cut key).x (rect_of layout cut key).w

-- the first row of cells with a part, and how many rows there are
abbrev pub first_row : Kept → Cut → ℕ → ℕ
first_row layout cut key =
    source_cell (source_cut layout cut key).height (source_cut layout cut key).cell_height
    (rect_of layout cut key).y

abbrev pub part_rows : Kept → Cut → ℕ → ℕ
part_rows layout cut key =
    source_cells (source_cut layout cut key).height (source_cut layout cut key).cell_height
    (rect_of layout cut key).y (rect_of layout cut key).h

-- the number of parts
abbrev pub part_count : Kept → Cut → ℕ → ℕ
part_count layout cut key = part_columns layout cut key * part_rows layout cut key

-- the index of part k among the cells of its level
abbrev pub part_index : Kept → Cut → ℕ → ℕ → ℕ
part_index layout cut key k =
    number_of (source_cut layout cut key)
    (first_column layout cut key + k % part_columns layout cut key)
    (first_row layout cut key + k / part_columns layout cut key)

-- the key of part k, in the same file and generation and the next larger level
abbrev pub part_key : Kept → Cut → ℕ → ℕ → ℕ
part_key layout cut key k =
    key_of (generation_of key) (file_of key) (level_of key - 1) (part_index layout cut key k)

-- ---- what calls take and answer

-- the key names a cell of a generated level of the record's file and generation
pub record NamesGenerated (state : RecordState) (layout : Kept) (cut : Cut) (key : ℕ) : Type 0 where
  pub file : file_of key ≡ state.file
  pub generation : generation_of key ≡ state.generation
  pub generated : stored_count layout ≤ level_of key
  pub level : level_of key < level_count_in layout cut.automip
  pub index : index_of key < cell_count (cut_level_in layout cut (level_of key))

-- the other key names a cell of the next larger level
pub record IsPartOf (layout : Kept) (cut : Cut) (key part : ℕ) : Type 0 where
  pub generation : generation_of part ≡ generation_of key
  pub file : file_of part ≡ file_of key
  pub level : level_of part ≡ level_of key - 1
  pub index : index_of part < cell_count (cut_level_in layout cut (level_of part))

-- a cell that is being made: the file, its cut, the key, and the number of parts added
pub record HalvingState : Type 0 where
  pub layout : Kept
  pub cut : Cut
  pub key : ℕ
  pub done : ℕ

abbrev pub halving_state : Kept → Cut → ℕ → ℕ → HalvingState
halving_state layout cut key done =
    record { layout = layout; cut = cut; key = key; done = done }
