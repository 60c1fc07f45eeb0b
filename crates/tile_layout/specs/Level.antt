-- Which levels does a file have, and how large are they? (docs/FORMAT.md, "Levels")
--
-- Most definitions take what is kept of a file; the last ones take the file's bytes.
use Rattle.std.specs.Prelude.{◌≡◌, ℕ, zero, suc, ◌<◌, ◌≤◌, max, Bool, ◌==◌, ◌&&◌, nat_lt, List}
use Rattle.std.specs.Prelude.{find, if◌then◌else◌}
use Rattle.std.specs.Option.{option_map_or}
use Rattle.std.specs.List.{range_with_len}
use Rattle.tiff_format.specs.Block.{LevelShape}
use Rattle.tiff_format.specs.Level.{halved, max_levels}
use Rattle.tile_layout.specs.Kept.{Kept, kept_of, stored_count, level_in}

-- a side of a level: its own if the level is stored, otherwise half of the one before
unfoldable pub side_in : (LevelShape → ℕ) → Kept → ℕ → ℕ
side_in side file zero = side (level_in file 0).shape
side_in side file (suc l) =
    if nat_lt (suc l) (stored_count file) then side (level_in file (suc l)).shape
    else halved (side_in side file l)

-- the width of a level
abbrev pub width_in : Kept → ℕ → ℕ
width_in file l = side_in (λ shape. shape.width) file l

-- the height of a level
abbrev pub height_in : Kept → ℕ → ℕ
height_in file l = side_in (λ shape. shape.height) file l

-- The number of levels down to 1 by 1, counting the first of that size. Sides are limited and
-- halve, so no more are needed than a file can store.
unfoldable pub levels_down : Kept → ℕ
levels_down file =
    option_map_or suc
    (find (λ l. (width_in file l == 1) && (height_in file l == 1)) (range_with_len 0 max_levels)) 0

-- The number of levels. A file with one stored level has those down to 1 by 1 if `automip` is on;
-- every other file has the stored ones.
unfoldable pub level_count_in : Kept → Bool → ℕ
level_count_in file automip =
    if automip && (stored_count file == 1) then levels_down file else stored_count file

-- the level is stored, or one of those down to 1 by 1
abbrev pub HasLevel : Kept → ℕ → Type 0
HasLevel file l = l < max (stored_count file) (levels_down file)

-- a possible number of levels
pub record IsLevelCount (n : ℕ) : Type 0 where
  pub low : 1 ≤ n
  pub high : n ≤ max_levels

-- each stored level has this number
abbrev pub IsOfEach : Kept → (LevelShape → ℕ) → ℕ → Type 0
IsOfEach file number n = (l : ℕ) → l < stored_count file → number (level_in file l).shape ≡ n

-- ---- from the bytes of a file

-- the width of a level in a file with these bytes
abbrev pub width_of : List ℕ → ℕ → ℕ
width_of bytes l = width_in (kept_of bytes) l

abbrev pub height_of : List ℕ → ℕ → ℕ
height_of bytes l = height_in (kept_of bytes) l

-- the number of levels of a file with these bytes
abbrev pub level_count : List ℕ → Bool → ℕ
level_count bytes automip = level_count_in (kept_of bytes) automip
