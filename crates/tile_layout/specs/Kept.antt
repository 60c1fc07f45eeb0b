-- What does the cache keep of a file?
use Rattle.std.specs.Prelude.{◌≡◌, ℕ, Bool, false, List, [], length, map, slice_index_or, None}
use Rattle.tiff_format.specs.declared.dirs.Dirs.{Dirs}
use Rattle.tiff_format.specs.Bytes.{is_big}
use Rattle.tiff_format.specs.Block.{LevelShape, Level}
use Rattle.tiff_format.specs.Level.{levels_of}
use Rattle.tiff_format.specs.Shown.{shown}

-- the byte order, and the stored levels, the largest first
pub record Kept : Type 0 where
  pub big : Bool
  pub levels : List Level

-- what is kept of a file with these bytes
abbrev pub kept_of : List ℕ → Kept
kept_of bytes = record { big = is_big bytes; levels = levels_of bytes }

-- what is kept of directories that were read
abbrev pub kept_in : Dirs → Kept
kept_in dirs = record { big = dirs.big; levels = map shown dirs.levels.items }

-- the directories that were read are those of these bytes
pub record AreDirsOf (bytes : List ℕ) (dirs : Dirs) : Type 0 where
  pub order : dirs.big ≡ is_big bytes
  pub levels : map shown dirs.levels.items ≡ levels_of bytes

-- the number of stored levels
abbrev pub stored_count : Kept → ℕ
stored_count file = length file.levels

-- a shape that stands for a level that does not exist
abbrev pub no_shape : LevelShape
no_shape = record {
  width = 0;
  height = 0;
  channels = 0;
  planes = 0;
  depth = 0;
  white = false;
  rgb = false;
  tile = None;
  rows_per_strip = 0;
}

-- a level that stands for one that is not stored
abbrev pub no_level : Level
no_level = record { shape = no_shape; offsets = [] }

-- stored level l
abbrev pub level_in : Kept → ℕ → Level
level_in file l = slice_index_or file.levels l no_level
