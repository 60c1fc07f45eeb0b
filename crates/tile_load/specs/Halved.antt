-- What is known of a cell that is being made of its parts?
use Rattle.std.specs.Prelude.{◌≡◌, ℕ, ◌+◌, ◌-◌, ◌*◌, ◌<◌, ◌≤◌, min, List, length}
use Rattle.tex_world.specs.World.{Files}
use Rattle.tiff_format.specs.Level.{halved}
use Rattle.tiff_format.specs.Limits.{max_side}
use Rattle.tiff_format.specs.declared.cut.Cut.{Cut}
use Rattle.tile_layout.specs.declared.grid.Grid.{Grid}
use Rattle.tiff_format.specs.declared.rect.Rect.{Rect}
use Rattle.tile_layout.specs.Cell.{channels_in, bit_depth_in, bit_depth_of, cell_count}
use Rattle.tile_layout.specs.CutSide.{IsCellSide, max_cells}
use Rattle.tile_layout.specs.Grid.{shown_grid}
use Rattle.tile_layout.specs.Kept.{Kept, kept_of, stored_count}
use Rattle.tile_layout.specs.Key.{level_of, IsKey}
use Rattle.tile_layout.specs.Texel.{texel_at, FitDepth}
use Rattle.rect_read.specs.declared.texels.RectSamples.{RectSamples}
use Rattle.rect_read.specs.RectSamples.{samples_of}
use Rattle.tile_store.specs.Tile.{cached_tile, IsTile}
use Rattle.tile_store.specs.Told.{ToldBy}
use Rattle.tile_load.specs.declared.part_span.PartSpan.{PartSpan}
use Rattle.tile_load.specs.Halving.{source_cut, rect_of, source_cell}
use Rattle.tile_load.specs.Halving.{first_column, part_columns, first_row, part_rows, part_count}
use Rattle.tile_load.specs.CellSamples.{sample_bits}
use Rattle.tile_load.specs.PartPlace.{sample_on}

-- the index of the part that holds the first source texel of texel (x, y)
abbrev pub part_at : Kept → Cut → ℕ → ℕ → ℕ → ℕ
part_at layout cut key x y =
    (source_cell (source_cut layout cut key).height (source_cut layout cut key).cell_height y
    - first_row layout cut key) * part_columns layout cut key
    + (source_cell (source_cut layout cut key).width (source_cut layout cut key).cell_width x
    - first_column layout cut key)

-- the samples of a cell after its first `done` parts were added, for a file with these bytes
pub record IsHalfMade (bytes : List ℕ) (layout : Kept) (cut : Cut) (key done : ℕ)
    (samples : List ℕ) : Type 0 where
  pub kept : layout ≡ kept_of bytes
  pub each : (i j c : ℕ) → i < (rect_of layout cut key).w → j < (rect_of layout cut key).h
      → c < channels_in layout
      → part_at layout cut key ((rect_of layout cut key).x + i) ((rect_of layout cut key).y + j)
      < done
      → sample_on (rect_of layout cut key).w (channels_in layout) samples i j c
      ≡ texel_at bytes (level_of key) ((rect_of layout cut key).x + i)
      ((rect_of layout cut key).y + j) c
  pub low : FitDepth (bit_depth_of bytes) samples

-- the n places from `from` on are those of a cell of the next smaller level, along a side that is
-- divided into cells of `cell` texels
pub record IsHalfCell (side cell from n : ℕ) : Type 0 where
  pub some : 1 ≤ side
  pub high : side ≤ max_side
  pub piece : IsCellSide side cell
  pub number : ℕ
  pub from_is : from ≡ number * cell
  pub some_n : 1 ≤ n
  pub long : n ≡ min cell (halved side - from)

-- the key belongs to a cell of a generated level, each side of which is made from the next larger
-- level in this way
pub record IsHalvedKey (layout : Kept) (cut : Cut) (key : ℕ) : Type 0 where
  pub is_key : IsKey key
  pub stored : 1 ≤ stored_count layout
  pub generated : stored_count layout ≤ level_of key
  pub across : IsHalfCell (source_cut layout cut key).width (source_cut layout cut key).cell_width
      (rect_of layout cut key).x (rect_of layout cut key).w
  pub down : IsHalfCell (source_cut layout cut key).height (source_cut layout cut key).cell_height
      (rect_of layout cut key).y (rect_of layout cut key).h
  pub few : cell_count (source_cut layout cut key) ≤ max_cells

-- the spans are those of the parts
pub record AreSpans (layout : Kept) (cut : Cut) (key : ℕ) (across down : PartSpan) : Type 0 where
  pub first_column : across.first ≡ first_column layout cut key
  pub columns : across.count ≡ part_columns layout cut key
  pub first_row : down.first ≡ first_row layout cut key
  pub rows : down.count ≡ part_rows layout cut key

-- what is true of the fields of a cell that is being made
pub record IsHalving (files : Files) (layout : Kept) (cut : Cut) (key done : ℕ) (source : Grid)
    (across down : PartSpan) (rect : Rect) (channels : ℕ) (scratch : List ℕ) (samples : RectSamples)
    : Type 0 where
  pub cell : IsHalvedKey layout cut key
  pub rect_is : rect ≡ rect_of layout cut key
  pub source_is : shown_grid source ≡ source_cut layout cut key
  pub spans : AreSpans layout cut key across down
  pub channels_is : channels ≡ channels_in layout
  pub done_few : done ≤ part_count layout cut key
  pub room : length scratch ≡ rect.w * channels
  pub depth : sample_bits samples ≡ bit_depth_in layout
  pub tile : IsTile (cached_tile key rect channels (samples_of samples))
  pub told : ToldBy files key (λ bytes. IsHalfMade bytes layout cut key done (samples_of samples))
