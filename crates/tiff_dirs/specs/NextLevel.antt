-- Which level follows the last one that was read?
use Rattle.std.specs.Prelude.{◌≡◌, ℕ, ◌&&◌, Bool, true, false, List, Option, Some, None, Result}
use Rattle.std.specs.Prelude.{Ok, Err, ⊤}
use Rattle.std.specs.Option.{option_map_or}
use Rattle.tiff_format.specs.declared.form.Form.{Form}
use Rattle.tiff_dirs.specs.declared.read_level.ReadLevel.{ReadLevel}
use Rattle.tiff_entries.specs.declared.error.DirsError.{DirsError}
use Rattle.tiff_entries.specs.declared.error.DirsError.TheVariants.{Fault, Reader, NoMemory}
use Rattle.tiff_format.specs.Directory.{next_directory}
use Rattle.tiff_format.specs.Block.{LevelShape, shape_at}
use Rattle.tiff_format.specs.DirectoryFault.{directory_fault}
use Rattle.tiff_format.specs.Level.{has_half_size, has_samples_of, is_next_level}
use Rattle.tiff_dirs.specs.ReadLevel.{IsLevelAt}

-- whether a level has half the size of the last one, and the samples of the first
abbrev pub is_half_of : LevelShape → LevelShape → LevelShape → Bool
is_half_of first last next = has_half_size last next && has_samples_of first next

-- For the directory at a place: its level if it is valid and half of the last one, `None` if it is
-- not half of it, or its fault.
abbrev pub FindsHalf : {E : Type 0} → Form → List ℕ → ℕ → LevelShape → LevelShape
    → Result (Option ReadLevel) (DirsError E) → Type 0
FindsHalf form bytes at first last (Ok None) =
    is_half_of first last (shape_at form bytes at) ≡ false
FindsHalf form bytes at first last (Ok (Some next)) =
    (directory_fault form bytes at ≡ None)
    × (is_half_of first last (shape_at form bytes at) ≡ true) × IsLevelAt form bytes at next
FindsHalf form bytes at first last (Err (Fault fault)) = directory_fault form bytes at ≡ Some fault
FindsHalf form bytes at first last (Err (Reader e)) = ⊤
FindsHalf form bytes at first last (Err NoMemory) = ⊤

-- whether the directory at a place is followed by the next level
abbrev pub is_followed : Form → List ℕ → ℕ → ℕ → Bool
is_followed form bytes first at =
    option_map_or (is_next_level form bytes first at) (next_directory form bytes at) false

-- the level that follows the one at a place, if any
abbrev pub IsNext : Form → List ℕ → ℕ → ℕ → Option ReadLevel → Type 0
IsNext form bytes first at None = is_followed form bytes first at ≡ false
IsNext form bytes first at (Some next) =
    (place : ℕ) × (next_directory form bytes at ≡ Some place)
    × (is_next_level form bytes first at place ≡ true) × IsLevelAt form bytes place next
