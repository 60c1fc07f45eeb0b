-- What does a record say about its file?
use Rattle.std.specs.Prelude.{◌≡◌, ◌↔◌, ℕ, ◌<◌, ◌≤◌, Bool, IsTrue, List, length, slice_index_or}
use Rattle.std.specs.Prelude.{Result, Ok, Err, IfOk, IsOkAnd}
use Rattle.std.specs.Option.{ForSome, option_map_or}
use Rattle.tex_world.specs.World.{Files, IsFile, IsReal, max_files}
use Rattle.tiff_format.specs.Facts.{IsChannelCount}
use Rattle.tiff_format.specs.Fault.{first_fault}
use Rattle.tiff_format.specs.Level.{max_levels}
use Rattle.tiff_format.specs.declared.fault.TiffFault.{TiffFault}
use Rattle.tiff_format.specs.declared.cut.Cut.{Cut}
use Rattle.tile_layout.specs.declared.grid.Grid.{Grid}
use Rattle.tile_layout.specs.Kept.{Kept, kept_of}
use Rattle.tile_layout.specs.Level.{level_count_in}
use Rattle.tile_layout.specs.Key.{index_of, HasParts}
use Rattle.tile_layout.specs.Cell.{cut_level_in, channels_in, bit_depth_in, CellsFit}
use Rattle.tile_layout.specs.Grid.{shown_grid}
use Rattle.file_table.specs.declared.known_level.KnownLevel.{KnownLevel}

-- The file and the generation, the cut, and what is kept of the generation's bytes, or their fault.
pub record RecordState : Type 0 where
  pub file : ℕ
  pub generation : ℕ
  pub cut : Cut
  pub layout : Result Kept TiffFault

abbrev pub record_state : ℕ → ℕ → Cut → Result Kept TiffFault → RecordState
record_state file generation cut layout = record {
  file = file;
  generation = generation;
  cut = cut;
  layout = layout;
}

-- the first fault of these bytes or, if they are valid, what is kept of them
abbrev pub layout_of : List ℕ → Result Kept TiffFault
layout_of bytes = option_map_or Err (first_fault bytes) (Ok (kept_of bytes))

-- The file is one of the world's, and the generation exists. If the world is modelled, the layout is
-- that of the bytes of this file and generation.
pub record IsRecord (files : Files) (state : RecordState) : Type 0 where
  pub file : IsFile files state.file
  pub real : IsReal files state.file state.generation
  pub layout : ForSome (files.held state.file state.generation) (λ bytes.
      state.layout ≡ layout_of bytes)

-- ---- what lookups need to know

-- the file is valid and has this level under the cut
abbrev pub HasCutLevel : RecordState → ℕ → Type 0
HasCutLevel state l =
    IsOkAnd state.layout (λ kept. l < level_count_in kept state.cut.automip)

-- the file has this number of levels under the cut
abbrev pub CountsLevels : RecordState → ℕ → Type 0
CountsLevels state n = IfOk state.layout (λ kept. n ≡ level_count_in kept state.cut.automip)

-- the level is divided into cells in this way
abbrev pub CutsLevel : RecordState → ℕ → Grid → Type 0
CutsLevel state l grid =
    IfOk state.layout (λ kept. shown_grid grid ≡ cut_level_in kept state.cut l)

-- whether the file is valid, and all its cells are small enough
abbrev pub TellsFit : RecordState → Bool → Type 0
TellsFit state fits = IsTrue fits ↔ IsOkAnd state.layout (λ kept. CellsFit kept state.cut)

-- What is kept of a level is right: how it is divided into cells, the key of its first cell, and
-- the samples per texel and their bits. The key is right for file numbers that a folder can have.
pub record IsLevelOf (file generation : ℕ) (cut : Cut) (kept : Kept) (l : ℕ) (level : KnownLevel)
    : Type 0 where
  pub grid : shown_grid level.grid ≡ cut_level_in kept cut l
  pub first : index_of level.first ≡ 0
  pub key : file < max_files → HasParts generation file l 0 level.first
  pub channels : level.channels ≡ channels_in kept
  pub samples : IsChannelCount level.channels
  pub depth : level.depth ≡ bit_depth_in kept

-- these are the levels that the file has under the cut, at least one
pub record AreLevelsOf (file generation : ℕ) (cut : Cut) (kept : Kept) (levels : List KnownLevel)
    : Type 0 where
  pub count : length levels ≡ level_count_in kept cut.automip
  pub some : 1 ≤ length levels
  pub each : (l : ℕ) (d : KnownLevel) → l < length levels
      → IsLevelOf file generation cut kept l (slice_index_or levels l d)

-- these are the levels of a valid file, never more than a file can have
pub record HasLevels (state : RecordState) (levels : List KnownLevel) : Type 0 where
  pub few : length levels ≤ max_levels
  pub are : IfOk state.layout (λ kept.
      AreLevelsOf state.file state.generation state.cut kept levels)
