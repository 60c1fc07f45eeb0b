-- How is a level divided into cells, and which cell holds a texel? (docs/FORMAT.md, "Cells")
--
-- Cells are numbered row by row from 0, and end with the level. Definitions that end in `_in` take
-- what is kept of a file; those that end in `_of` take the file's bytes.
use Rattle.std.specs.Prelude.{ℕ, ◌+◌, ◌-◌, ◌*◌, ◌/◌, ◌%◌, ◌<◌, ◌≤◌, ◌==◌, min, nat_lt, List}
use Rattle.std.specs.Prelude.{Option, Some, None, if◌then◌else◌}
use Rattle.tiff_format.specs.Block.{LevelShape, pieces_over}
use Rattle.tiff_format.specs.declared.cut.Cut.{Cut}
use Rattle.tiff_format.specs.declared.rect.Rect.{Rect}
use Rattle.tile_layout.specs.Kept.{Kept, kept_of, stored_count, level_in}
use Rattle.tile_layout.specs.Level.{width_in, height_in, level_count_in}

-- A divided level: its sides, and those of its cells before they are clipped to the level.
pub record CutLevel : Type 0 where
  pub width : ℕ
  pub height : ℕ
  pub cell_width : ℕ
  pub cell_height : ℕ

-- the number of cells across
abbrev pub cells_across : CutLevel → ℕ
cells_across level = pieces_over level.width level.cell_width

-- the number of cells down
abbrev pub cells_down : CutLevel → ℕ
cells_down level = pieces_over level.height level.cell_height

-- the number of cells
abbrev pub cell_count : CutLevel → ℕ
cell_count level = cells_across level * cells_down level

-- the index of the cell that holds texel (x, y)
unfoldable pub cell_index : CutLevel → ℕ → ℕ → ℕ
cell_index level x y =
    y / level.cell_height * cells_across level + x / level.cell_width

-- the index of the cell in this column and row of cells
abbrev pub number_of : CutLevel → ℕ → ℕ → ℕ
number_of level column row = row * cells_across level + column

-- the length of n places from a place on, clipped to a side
abbrev pub clipped : ℕ → ℕ → ℕ → ℕ
clipped side from n = min n (side - from)

-- the first column of cell i
abbrev pub cell_left : CutLevel → ℕ → ℕ
cell_left level i = i % cells_across level * level.cell_width

-- the first row of cell i
abbrev pub cell_top : CutLevel → ℕ → ℕ
cell_top level i = i / cells_across level * level.cell_height

-- the rectangle of cell i
unfoldable pub cell_rect : CutLevel → ℕ → Rect
cell_rect level i = record {
  x = cell_left level i;
  y = cell_top level i;
  w = clipped level.width (cell_left level i) level.cell_width;
  h = clipped level.height (cell_top level i) level.cell_height;
}

-- the texel lies in the rectangle
pub record HoldsTexel (rect : Rect) (x y : ℕ) : Type 0 where
  pub left : rect.x ≤ x
  pub right : x < rect.x + rect.w
  pub top : rect.y ≤ y
  pub bottom : y < rect.y + rect.h

-- ---- the levels of a file

-- the side of the cells of a stripped level: that of the cut, or the level's own if that is 0
abbrev pub strip_cell_side : Cut → ℕ → ℕ
strip_cell_side cut own = if cut.autotile == 0 then own else cut.autotile

-- the width of the cells of a stored level: that of its tiles, if it has tiles
abbrev pub cell_width_by : Cut → LevelShape → Option (ℕ × ℕ) → ℕ
cell_width_by cut shape None = strip_cell_side cut shape.width
cell_width_by cut shape (Some tile) = tile.0

abbrev pub cell_height_by : Cut → LevelShape → Option (ℕ × ℕ) → ℕ
cell_height_by cut shape None = strip_cell_side cut shape.height
cell_height_by cut shape (Some tile) = tile.1

-- the stored level that determines how a level is divided: itself, or level 0 for a generated level
abbrev pub pattern_shape : Kept → ℕ → LevelShape
pattern_shape file l = (level_in file (if nat_lt l (stored_count file) then l else 0)).shape

-- how level l is divided
abbrev pub cut_level_in : Kept → Cut → ℕ → CutLevel
cut_level_in file cut l = record {
  width = width_in file l;
  height = height_in file l;
  cell_width = cell_width_by cut (pattern_shape file l) (pattern_shape file l).tile;
  cell_height = cell_height_by cut (pattern_shape file l) (pattern_shape file l).tile;
}

-- how level l of a file with these bytes is divided
abbrev pub cut_level_of : List ℕ → Cut → ℕ → CutLevel
cut_level_of bytes cut l = cut_level_in (kept_of bytes) cut l

-- ---- the samples of texels, and the bytes of cells

-- the number of samples per texel, the same in each level
abbrev pub channels_in : Kept → ℕ
channels_in file = (level_in file 0).shape.channels

abbrev pub channels_of : List ℕ → ℕ
channels_of bytes = channels_in (kept_of bytes)

-- the bits per sample, the same in each level
abbrev pub bit_depth_in : Kept → ℕ
bit_depth_in file = (level_in file 0).shape.depth

abbrev pub bit_depth_of : List ℕ → ℕ
bit_depth_of bytes = bit_depth_in (kept_of bytes)

-- the bytes of a rectangle of texels in memory, with 16 bits per sample
abbrev pub rect_bytes : ℕ → Rect → ℕ
rect_bytes channels rect = 2 * channels * rect.w * rect.h

-- the most bytes of a cell
abbrev pub max_cell_bytes : ℕ
max_cell_bytes = 33554432

-- no cell of the level takes more bytes than a cell may
abbrev pub CellsFitOn : ℕ → CutLevel → Type 0
CellsFitOn channels level =
    (i : ℕ) → i < cell_count level → rect_bytes channels (cell_rect level i) ≤ max_cell_bytes

-- no cell of any level under the cut takes more bytes than a cell may
abbrev pub CellsFit : Kept → Cut → Type 0
CellsFit file cut = (l : ℕ) → l < level_count_in file cut.automip
    → CellsFitOn (channels_in file) (cut_level_in file cut l)
