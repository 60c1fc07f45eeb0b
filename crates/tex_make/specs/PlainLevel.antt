-- What is a level of an image in memory, and which samples has it?
use Rattle.std.specs.Prelude.{◌≡◌, ℕ, ◌+◌, ◌*◌, ◌<◌, Bool, List, [], length, slice_index}
use Rattle.std.specs.Prelude.{slice_index_or}
use Rattle.tiff_format.specs.Facts.{IsSide, IsChannelCount, IsDepth}
use Rattle.tiff_format.specs.Level.{halved}
use Rattle.tile_layout.specs.Texel.{FitDepth, quarter}
use Rattle.tex_make.specs.Picture.{Picture}

-- the sides, the samples per texel and their bits, and all samples, row by row
pub record PlainLevel : Type 0 where
  pub width : ℕ
  pub height : ℕ
  pub channels : ℕ
  pub depth : ℕ
  pub samples : List ℕ

-- the level with these fields
abbrev pub plain_level : ℕ → ℕ → ℕ → ℕ → List ℕ → PlainLevel
plain_level width height channels depth samples = record {
  width = width;
  height = height;
  channels = channels;
  depth = depth;
  samples = samples;
}

-- the index of sample c of texel (x, y)
abbrev pub place_in : PlainLevel → ℕ → ℕ → ℕ → ℕ
place_in level x y c = (y * level.width + x) * level.channels + c

-- sample c of texel (x, y)
abbrev pub sample_in : PlainLevel → ℕ → ℕ → ℕ → ℕ
sample_in level x y c = slice_index level.samples (place_in level x y c)

-- True of each level: its sides and samples are within the limits, and the number of samples
-- is right.
pub record IsPlainLevel (level : PlainLevel) : Type 0 where
  pub wide : IsSide level.width
  pub high : IsSide level.height
  pub some : IsChannelCount level.channels
  pub bits : IsDepth level.depth
  pub count : length level.samples ≡ level.width * level.height * level.channels
  pub low : FitDepth level.depth level.samples

-- the second level is half of the first
pub record IsHalfOf (first second : PlainLevel) : Type 0 where
  pub width : second.width ≡ halved first.width
  pub height : second.height ≡ halved first.height
  pub channels : second.channels ≡ first.channels
  pub depth : second.depth ≡ first.depth
  pub samples : (x y c : ℕ) → x < second.width → y < second.height → c < second.channels
      → sample_in second x y c
      ≡ quarter (λ i j. sample_in first i j c) first.width first.height x y

-- a level that stands for one that does not exist
abbrev pub no_level : PlainLevel
no_level = plain_level 0 0 0 0 []

-- level l in a list of levels
abbrev pub level_at : List PlainLevel → ℕ → PlainLevel
level_at levels l = slice_index_or levels l no_level

-- the image with these levels, RGB or not
abbrev pub picture_in : List PlainLevel → Bool → Picture
picture_in levels rgb = record {
  levels = length levels;
  width = λ l. (level_at levels l).width;
  height = λ l. (level_at levels l).height;
  channels = (level_at levels 0).channels;
  depth = (level_at levels 0).depth;
  rgb = rgb;
  sample = λ l. sample_in (level_at levels l);
}

-- each of them is a level, and all have the same channels and depth
pub record AreLevels (levels : List PlainLevel) : Type 0 where
  pub each : (l : ℕ) → l < length levels → IsPlainLevel (level_at levels l)
  pub channels : (l : ℕ) → l < length levels
      → (level_at levels l).channels ≡ (level_at levels 0).channels
  pub depth : (l : ℕ) → l < length levels → (level_at levels l).depth ≡ (level_at levels 0).depth
