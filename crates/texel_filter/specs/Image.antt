-- What is an image with levels, and which texels does it have?
use Rattle.std.specs.Prelude.{◌≡◌, ℕ, ◌<◌, ◌≤◌, List, length, slice_index}
use Rattle.tiff_format.specs.Limits.{max_side, max_channels}

-- the number of levels of an image, and the width and height of each
pub record Sizes : Type 0 where
  pub levels : ℕ
  pub width : ℕ → ℕ
  pub height : ℕ → ℕ

-- The 16-bit values of an image, by level, column, row and channel: 0 for a channel that it lacks.
abbrev pub Values : Type 0
Values = ℕ → ℕ → ℕ → ℕ → ℕ

-- an image
pub record Image : Type 0 where
  pub sizes : Sizes
  pub values : Values

-- the image of these levels and values
abbrev pub image_of : Sizes → Values → Image
image_of sizes values = record { sizes = sizes; values = values }

-- a texel: its level, column and row
pub record Texel : Type 0 where
  pub level : ℕ
  pub x : ℕ
  pub y : ℕ

-- the texel in column x and row y of a level
abbrev pub texel_of : ℕ → ℕ → ℕ → Texel
texel_of level x y = record { level = level; x = x; y = y }

-- the texel is one of the image
pub record IsInside (sizes : Sizes) (texel : Texel) : Type 0 where
  pub level : texel.level < sizes.levels
  pub x : texel.x < sizes.width texel.level
  pub y : texel.y < sizes.height texel.level

-- a side of a level
pub record IsSide (side : ℕ) : Type 0 where
  pub low : 1 ≤ side
  pub high : side ≤ max_side

-- a number of channels
pub record IsChannelCount (channels : ℕ) : Type 0 where
  pub low : 1 ≤ channels
  pub high : channels ≤ max_channels

-- the first `channels` values of the list are these
abbrev pub AreFirst : ℕ → (ℕ → ℕ) → List ℕ → Type 0
AreFirst channels value listed = (c : ℕ) → c < channels → slice_index listed c ≡ value c

-- the channels, listed, have these values
abbrev pub AreValues : (ℕ → ℕ) → List ℕ → Type 0
AreValues value listed = AreFirst (length listed) value listed
