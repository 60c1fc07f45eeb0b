-- What is read for a region of a record?
use Rattle.std.specs.Prelude.{◌≡◌, ℕ, ◌+◌, ◌<◌, ◌≤◌, List, map, Ok, IsOkAnd}
use Rattle.std.specs.List.{range_with_len}
use Rattle.tex_world.specs.World.{Files}
use Rattle.tile_layout.specs.Grid.{shown_grid}
use Rattle.tile_layout.specs.Key.{key_of}
use Rattle.tile_layout.specs.Kept.{Kept}
use Rattle.tile_layout.specs.Level.{level_count_in}
use Rattle.tile_layout.specs.Cell.{cut_level_in, channels_in, CellsFit}
use Rattle.file_table.specs.Record.{RecordState}
use Rattle.texel_values.specs.declared.area.Area.{Area}
use Rattle.texel_values.specs.declared.region.Region.{Region}
use Rattle.texel_values.specs.Area.{IsAreaOf, area_cell, area_cells}
use Rattle.tile_source.specs.Pass.{PassState}
use Rattle.tile_source.specs.Call.{Needs}

-- the keys of the first n cells that an area meets, row by row
abbrev pub area_keys : RecordState → Area → ℕ → List ℕ
area_keys r area n =
    map (λ k. key_of r.generation r.file area.level (area_cell area k)) (range_with_len 0 n)

-- the texels that the level has lie within the area
pub record IsWithin (area : Area) : Type 0 where
  pub across : area.window.columns.before + area.window.columns.inside ≤ area.window.width
  pub down : area.window.rows.before + area.window.rows.inside ≤ area.height

-- the file is valid and has the level of the area, which is divided in this way
abbrev pub HasAreaAt : Area → RecordState → Type 0
HasAreaAt area r = IsOkAnd r.layout (λ kept.
    (area.level < level_count_in kept r.cut.automip)
    × (shown_grid area.grid ≡ cut_level_in kept r.cut area.level)
    × (area.window.channels ≡ channels_in kept))

-- The file is valid, its cells are small enough and it has the level. The area is that of the
-- region.
pub record HasArea (kept : Kept) (region : Region) (area : Area) (r : RecordState) : Type 0 where
  pub layout : r.layout ≡ Ok kept
  pub fits : CellsFit kept r.cut
  pub level : region.level < level_count_in kept r.cut.automip
  pub is : IsAreaOf (cut_level_in kept r.cut region.level) region (channels_in kept) area

-- the record's layout is valid, and the area is that of the region in it
abbrev pub HasAreaOf : Region → Area → RecordState → Type 0
HasAreaOf region area r = IsOkAnd r.layout (λ kept. HasArea kept region area r)

-- A region of a level was read, with this number of channels: each cell that it meets was needed
-- once, row by row.
pub record ReadsRegion (files : Files) (region : Region) (channels : ℕ) (old new : PassState)
    (r : RecordState) : Type 0 where
  pub kept : Kept
  pub area : Area
  pub has : HasArea kept region area r
  pub channels_are : channels ≡ channels_in kept
  pub needs : Needs files (area_keys r area (area_cells area)) old new
