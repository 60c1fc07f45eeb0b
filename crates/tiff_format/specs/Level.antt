-- Which levels does a file store? (docs/FORMAT.md, "Levels")
use Rattle.std.specs.Prelude.{◌≡◌, ℕ, zero, suc, ◌/◌, max, Bool, true, false, ◌==◌, ◌&&◌, not}
use Rattle.std.specs.Prelude.{List, map, is_none, if◌then◌else◌}
use Rattle.std.specs.Option.{option_map_or, unwrap_or}
use Rattle.std.specs.List.{range_with_len}
use Rattle.tiff_format.specs.declared.form.Form.{Form}
use Rattle.tiff_format.specs.Form.{form_of}
use Rattle.tiff_format.specs.Directory.{directory_place, next_directory}
use Rattle.tiff_format.specs.Block.{LevelShape, Level, shape_at, level_at}
use Rattle.tiff_format.specs.DirectoryFault.{directory_fault}

-- half of a side, rounded down, and at least 1
abbrev pub halved : ℕ → ℕ
halved side = max 1 (side / 2)

-- the place of directory k; 0 if none exists
abbrev pub level_place : List ℕ → ℕ → ℕ
level_place bytes k = unwrap_or (directory_place (form_of bytes) bytes k) 0

-- The level of directory k.
unfoldable pub directory_level : List ℕ → ℕ → Level
directory_level bytes k = level_at (form_of bytes) bytes (level_place bytes k)

-- whether the level has a single texel
abbrev pub is_single : LevelShape → Bool
is_single shape = (shape.width == 1) && (shape.height == 1)

-- whether the second level has half the size of the first
abbrev pub has_half_size : LevelShape → LevelShape → Bool
has_half_size last next =
    (next.width == halved last.width) && (next.height == halved last.height)

-- whether both levels have the same channels and depth
abbrev pub has_samples_of : LevelShape → LevelShape → Bool
has_samples_of first next = (next.channels == first.channels) && (next.depth == first.depth)

-- whether the directory at the second place is the half-size image of the one at the first, with
-- the samples of the very first level
unfoldable pub is_next_level : Form → List ℕ → ℕ → ℕ → ℕ → Bool
is_next_level form bytes first at next =
    not (is_single (shape_at form bytes at))
    && (is_none (directory_fault form bytes next)
    && (has_half_size (shape_at form bytes at) (shape_at form bytes next)
    && has_samples_of (shape_at form bytes first) (shape_at form bytes next)))

-- Whether directory k is level k: the first is, and a later one is if it is the next level after
-- one that is a level.
unfoldable pub is_level : List ℕ → ℕ → Bool
is_level bytes zero = true
is_level bytes (suc k) =
    is_level bytes k
    && option_map_or
    (is_next_level (form_of bytes) bytes (level_place bytes 0) (level_place bytes k))
    (next_directory (form_of bytes) bytes (level_place bytes k)) false

-- The most levels of a file. Sides are at most 131072 and halve from level to level, so a directory
-- after this many levels is never a level. `read_dirs` shows for every file that it reads that the
-- directory after the last level is not a level.
abbrev pub max_levels : ℕ
max_levels = 18

-- how many of the first n numbers pass a test before the first that fails it
abbrev pub leading : (ℕ → Bool) → ℕ → ℕ → ℕ
leading test k zero = 0
leading test k (suc n) = if test k then suc (leading test (suc k) n) else 0

-- The number of levels that the file stores: its leading directories that are levels.
unfoldable pub stored_levels : List ℕ → ℕ
stored_levels bytes = leading (is_level bytes) 0 max_levels

-- the levels that the file stores, the largest first
abbrev pub levels_of : List ℕ → List Level
levels_of bytes = map (directory_level bytes) (range_with_len 0 (stored_levels bytes))

-- the directory after the last level is not a level, so no level was left out
abbrev pub IsWholeChain : List ℕ → Type 0
IsWholeChain bytes = is_level bytes (stored_levels bytes) ≡ false
