-- Which 16-bit value has a channel of a texel of a file? (docs/FORMAT.md, "Values")
use Rattle.std.specs.Prelude.{ℕ, nat_lt, List, if◌then◌else◌}
use Rattle.tiff_format.specs.Texel.{value_of}
use Rattle.tile_layout.specs.Kept.{Kept, kept_of}
use Rattle.tile_layout.specs.Cell.{channels_in, bit_depth_in}
use Rattle.tile_layout.specs.Texel.{texel_in}

-- the value of channel c of texel (x, y) of level l, from what is kept of a file and its bytes; 0
-- for a channel that the file lacks
abbrev pub channel_value_in : Kept → List ℕ → ℕ → ℕ → ℕ → ℕ → ℕ
channel_value_in file bytes l x y c =
    if nat_lt c (channels_in file)
    then value_of (bit_depth_in file) (texel_in file bytes l x y c) else 0

-- the value of channel c of texel (x, y) of level l of a file with these bytes
abbrev pub channel_value_of : List ℕ → ℕ → ℕ → ℕ → ℕ → ℕ
channel_value_of bytes l x y c = channel_value_in (kept_of bytes) bytes l x y c
