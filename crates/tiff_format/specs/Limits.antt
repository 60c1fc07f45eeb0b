-- How large may an image and a tile be? (docs/FORMAT.md, "Faults")
use Rattle.std.specs.Prelude.{ℕ}

-- the greatest side of an image or a tile
abbrev pub max_side : ℕ
max_side = 131072

-- the most channels
abbrev pub max_channels : ℕ
max_channels = 8

-- the sides of a tile are multiples of this
abbrev pub tile_step : ℕ
tile_step = 16
