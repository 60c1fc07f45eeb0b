-- Which levels in memory are those of a file, stored or made by halving?
use Rattle.std.specs.Prelude.{◌≡◌, ℕ, ◌+◌, ◌*◌, ◌<◌, ◌≤◌, List, length}
use Rattle.tiff_format.specs.Block.{Level}
use Rattle.tiff_format.specs.declared.rect.Rect.{Rect}
use Rattle.tile_layout.specs.Blocks.{HoldsBlocks}
use Rattle.tile_layout.specs.Cell.{channels_in, bit_depth_in}
use Rattle.tile_layout.specs.Kept.{Kept, stored_count, level_in}
use Rattle.tile_layout.specs.Level.{width_in, height_in}
use Rattle.tile_layout.specs.Texel.{texel_in}
use Rattle.tex_make.specs.PlainLevel.{PlainLevel, IsPlainLevel, level_at, sample_in}
use Rattle.tex_make.specs.Picture.{max_samples}

-- the whole of level l of the file
abbrev pub whole_of : Kept → ℕ → Rect
whole_of file l = record { x = 0; y = 0; w = width_in file l; h = height_in file l }

-- the level has the sides, channels and depth of level l of the file
pub record HasShape (file : Kept) (l : ℕ) (level : PlainLevel) : Type 0 where
  pub width : level.width ≡ width_in file l
  pub height : level.height ≡ height_in file l
  pub channels : level.channels ≡ channels_in file
  pub depth : level.depth ≡ bit_depth_in file
  pub known : IsPlainLevel level

-- the level has the texels of level l of the file
abbrev pub HasTexels : Kept → List ℕ → ℕ → PlainLevel → Type 0
HasTexels file bytes l level = (x y c : ℕ) → x < level.width → y < level.height
    → c < level.channels → sample_in level x y c ≡ texel_in file bytes l x y c

-- these are the first levels of the file, and only the last may have a single texel
pub record AreLevelsOf (file : Kept) (levels : List PlainLevel) : Type 0 where
  pub some : 1 ≤ length levels
  pub shapes : (l : ℕ) → l < length levels → HasShape file l (level_at levels l)
  pub before : (l : ℕ) → l + 1 < length levels → 2 ≤ width_in file l * height_in file l

-- each level has its texels
abbrev pub AreTexelsOf : Kept → List ℕ → List PlainLevel → Type 0
AreTexelsOf file bytes levels =
    (l : ℕ) → l < length levels → HasTexels file bytes l (level_at levels l)

-- the last level has a single texel
pub record EndsSingle (levels : List PlainLevel) (last : ℕ) : Type 0 where
  pub all : last + 1 ≡ length levels
  pub width : (level_at levels last).width ≡ 1
  pub height : (level_at levels last).height ≡ 1

-- no strip or tile of the file ends after the end of the bytes
abbrev pub HoldsAll : List ℕ → Kept → Type 0
HoldsAll bytes file = (l : ℕ) → l < stored_count file → HoldsBlocks bytes (level_in file l)

-- the level has more samples than level 0 may have
abbrev pub IsLarge : Level → Type 0
IsLarge level = max_samples < level.shape.width * level.shape.height * level.shape.channels

-- the number of samples of level 0, from what is kept of a file
abbrev pub samples_kept : Kept → ℕ
samples_kept file = width_in file 0 * height_in file 0 * channels_in file
