-- Which 16-bit values has a texel of a tile?
use Rattle.std.specs.Prelude.{◌≡◌, ℕ, ◌<◌, ◌%◌, ◌==◌, List, length, slice_index, nat_lt}
use Rattle.std.specs.Prelude.{if◌then◌else◌}
use Rattle.tex_world.specs.World.{Files}
use Rattle.tiff_format.specs.Texel.{value_of}
use Rattle.tile_layout.specs.Key.{level_of}
use Rattle.tile_layout.specs.Cell.{bit_depth_of}
use Rattle.tile_layout.specs.Value.{channel_value_of}
use Rattle.tile_store.specs.Tile.{CachedTile, kept_sample}
use Rattle.tile_store.specs.Told.{ToldBy}
use Rattle.texel_values.specs.declared.texel_at.TexelAt.{TexelAt}

-- The 16-bit value of a sample. An 8-bit sample is at most 255.
abbrev pub kept_value : ℕ → ℕ → ℕ
kept_value depth sample = value_of depth (if depth == 8 then sample % 256 else sample)

-- a channel of a texel's samples; 0 if the texel lacks it
abbrev pub sample_or_zero : List ℕ → ℕ → ℕ
sample_or_zero samples c = if nat_lt c (length samples) then slice_index samples c else 0

-- the value of a channel of a texel's samples; 0 if the texel lacks it
abbrev pub sample_value : List ℕ → ℕ → ℕ → ℕ
sample_value samples depth c =
    if nat_lt c (length samples) then kept_value depth (slice_index samples c) else 0

-- the value of a channel of a texel in a tile; 0 if the texel lacks it
abbrev pub tile_value : CachedTile → ℕ → TexelAt → ℕ → ℕ
tile_value tile depth at c =
    if nat_lt c tile.channels then kept_value depth (kept_sample tile at.x at.y c) else 0

-- these are the values of the first channels of a texel in a tile
abbrev pub AreValuesIn : CachedTile → ℕ → TexelAt → List ℕ → Type 0
AreValuesIn tile depth at out =
    (c : ℕ) → c < length out → slice_index out c ≡ tile_value tile depth at c

-- these are the values of the first channels of a texel in a file
abbrev pub AreValuesAt : List ℕ → TexelAt → List ℕ → Type 0
AreValuesAt bytes at out =
    (c : ℕ) → c < length out → slice_index out c ≡ channel_value_of bytes at.level at.x at.y c

-- In a modelled world, a tile's values of a texel are those of its file, if the depth is right.
abbrev pub AreToldValues : Files → CachedTile → ℕ → TexelAt → List ℕ → Type 0
AreToldValues files tile depth at out = ToldBy files tile.key (λ bytes.
    level_of tile.key ≡ at.level → depth ≡ bit_depth_of bytes → AreValuesAt bytes at out)
