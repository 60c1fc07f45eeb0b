-- What does reading the directories of a file say about its bytes?
use Rattle.std.specs.Prelude.{◌≡◌, ℕ, List, map, Some, None, Result, Ok, Err, ⊤}
use Rattle.tiff_format.specs.declared.dirs.Dirs.{Dirs}
use Rattle.tiff_entries.specs.declared.error.DirsError.{DirsError}
use Rattle.tiff_entries.specs.declared.error.DirsError.TheVariants.{Fault, Reader, NoMemory}
use Rattle.tiff_format.specs.Bytes.{is_big}
use Rattle.tiff_format.specs.Fault.{first_fault}
use Rattle.tiff_format.specs.Level.{levels_of, IsWholeChain}
use Rattle.tiff_format.specs.Shown.{shown}

-- For modelled bytes: all levels of the file if it has no fault, otherwise the first fault.
abbrev pub Tells : {E : Type 0} → List ℕ → Result Dirs (DirsError E) → Type 0
Tells bytes (Ok dirs) =
    (first_fault bytes ≡ None) × (dirs.big ≡ is_big bytes)
    × (map shown dirs.levels.items ≡ levels_of bytes) × IsWholeChain bytes
Tells bytes (Err (Fault fault)) = first_fault bytes ≡ Some fault
Tells bytes (Err (Reader e)) = ⊤
Tells bytes (Err NoMemory) = ⊤
