-- What is an image with all its levels down to one texel?
use Rattle.std.specs.Prelude.{◌≡◌, ℕ, ◌+◌, ◌-◌, ◌*◌, ◌<◌, ◌≤◌, ◌&&◌, Bool, nat_le, List}
use Rattle.std.specs.Prelude.{if◌then◌else◌}
use Rattle.tiff_format.specs.Facts.{IsSide, IsChannelCount, IsDepth}
use Rattle.tiff_format.specs.Level.{halved, max_levels}
use Rattle.tiff_format.specs.Texel.{greatest_sample}
use Rattle.tile_layout.specs.Kept.{kept_of, level_in}
use Rattle.tile_layout.specs.Level.{levels_down, width_of, height_of}
use Rattle.tile_layout.specs.Cell.{channels_of, bit_depth_of}
use Rattle.tile_layout.specs.Texel.{texel_at}

-- The number of levels, their sides, the samples per texel and their bits, whether they are RGB,
-- and sample c of texel (x, y) of each level.
pub record Picture : Type 0 where
  pub levels : ℕ
  pub width : ℕ → ℕ
  pub height : ℕ → ℕ
  pub channels : ℕ
  pub depth : ℕ
  pub rgb : Bool
  pub sample : ℕ → ℕ → ℕ → ℕ → ℕ

-- the image in a file with these bytes: the stored levels, and then levels made by halving
abbrev pub picture_of : List ℕ → Picture
picture_of bytes = record {
  levels = levels_down (kept_of bytes);
  width = width_of bytes;
  height = height_of bytes;
  channels = channels_of bytes;
  depth = bit_depth_of bytes;
  rgb = (level_in (kept_of bytes) 0).shape.rgb;
  sample = texel_at bytes;
}

-- the number of colour samples per texel: red, green and blue, or one grey
abbrev pub colours : Picture → ℕ
colours p = if p.rgb && nat_le 3 p.channels then 3 else 1

-- the number of other samples per texel
abbrev pub extra_samples : Picture → ℕ
extra_samples p = p.channels - colours p

-- the two images have the same levels with the same samples
pub record AreAlike (p q : Picture) : Type 0 where
  pub levels : p.levels ≡ q.levels
  pub width : (l : ℕ) → l < p.levels → p.width l ≡ q.width l
  pub height : (l : ℕ) → l < p.levels → p.height l ≡ q.height l
  pub channels : p.channels ≡ q.channels
  pub depth : p.depth ≡ q.depth
  pub rgb : p.rgb ≡ q.rgb
  pub samples : (l x y c : ℕ) → l < p.levels → x < p.width l → y < p.height l → c < p.channels
      → p.sample l x y c ≡ q.sample l x y c

-- True of the image of every valid file: sides and samples are within the limits, each level
-- is half of the one before it, and the last has a single texel.
pub record IsPicture (p : Picture) : Type 0 where
  pub some : 1 ≤ p.levels
  pub few : p.levels ≤ max_levels
  pub width : (l : ℕ) → l < p.levels → IsSide (p.width l)
  pub height : (l : ℕ) → l < p.levels → IsSide (p.height l)
  pub half_width : (l : ℕ) → l + 1 < p.levels → p.width (l + 1) ≡ halved (p.width l)
  pub half_height : (l : ℕ) → l + 1 < p.levels → p.height (l + 1) ≡ halved (p.height l)
  pub last_width : p.width (p.levels - 1) ≡ 1
  pub last_height : p.height (p.levels - 1) ≡ 1
  pub before : (l : ℕ) → l + 1 < p.levels → 2 ≤ p.width l * p.height l
  pub channels : IsChannelCount p.channels
  pub depth : IsDepth p.depth
  pub low : (l x y c : ℕ) → l < p.levels → x < p.width l → y < p.height l → c < p.channels
      → p.sample l x y c ≤ greatest_sample p.depth

-- the most samples of level 0 that an image may have
abbrev pub max_samples : ℕ
max_samples = 67108864

-- the number of samples of level 0
abbrev pub samples_of : Picture → ℕ
samples_of p = p.width 0 * p.height 0 * p.channels
