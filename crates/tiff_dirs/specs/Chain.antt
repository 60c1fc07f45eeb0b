-- What is true of the levels of a file while they are being read?
use Rattle.std.specs.Prelude.{◌≡◌, ℕ, ◌<◌, true, List, map, None}
use Rattle.std.specs.List.{range_with_len}
use Rattle.tiff_entries.specs.declared.place.FilePlace.{FilePlace}
use Rattle.tiff_format.specs.Form.{form_of}
use Rattle.tiff_format.specs.Block.{Level}
use Rattle.tiff_format.specs.DirectoryFault.{data_fault}
use Rattle.tiff_format.specs.Level.{is_level, directory_level, level_place, levels_of, IsWholeChain}
use Rattle.tiff_entries.specs.Entries.{IsLinkAt}

-- the first n directories are levels, their blocks lie in the file, and these are the levels
pub record AreLevels (bytes : List ℕ) (n : ℕ) (levels : List Level) : Type 0 where
  pub each : (k : ℕ) → k < n → is_level bytes k ≡ true
  pub blocks : (k : ℕ) → k < n → data_fault (form_of bytes) bytes k (directory_level bytes k) ≡ None
  pub same : levels ≡ map (directory_level bytes) (range_with_len 0 n)

-- the directory of level k names this place for the next one
abbrev pub IsEnd : List ℕ → ℕ → FilePlace → Type 0
IsEnd bytes k next = IsLinkAt (form_of bytes) bytes (level_place bytes k) next

-- these are all levels of the file
abbrev pub AreAll : List ℕ → List Level → Type 0
AreAll bytes levels = (levels ≡ levels_of bytes) × IsWholeChain bytes
