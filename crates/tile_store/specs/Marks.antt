-- Which files may have tiles in a shard?
use Rattle.std.specs.Prelude.{◌≡◌, ℕ, ◌==◌, ◌^◌, Bool, true, false, List, length}
use Rattle.std.specs.Prelude.{slice_index_or, slice_set}
use Rattle.tile_layout.specs.Key.{file_bits, file_of}
use Rattle.tile_store.specs.CachedTile.{EntryState}

-- there is a mark for each file that a key can name
abbrev pub AreMarks : List Bool → Type 0
AreMarks marks = length marks ≡ 2 ^ file_bits

-- a file is marked
abbrev pub is_marked : ℕ → List Bool → Bool
is_marked file marks = slice_index_or marks file false

-- the file of an entry is marked
abbrev pub HasMark : List Bool → ℕ × EntryState → Type 0
HasMark marks e = is_marked (file_of e.0) marks ≡ true

-- the entry belongs to another file
abbrev pub IsOfOther : ℕ → ℕ × EntryState → Type 0
IsOfOther file e = (file_of e.0 == file) ≡ false

-- a file gets a mark
abbrev pub marked : ℕ → List Bool → List Bool
marked file marks = slice_set marks file true

-- a file loses its mark
abbrev pub unmarked : ℕ → List Bool → List Bool
unmarked file marks = slice_set marks file false
