-- What is a cached tile? The texels of a cell, with the key of the cell.
use Rattle.std.specs.Prelude.{◌≡◌, ℕ, ◌+◌, ◌-◌, ◌*◌, ◌<◌, ◌≤◌, List, length, slice_index}
use Rattle.tiff_format.specs.Facts.{IsChannelCount}
use Rattle.tiff_format.specs.declared.rect.Rect.{Rect}
use Rattle.tile_layout.specs.Cell.{max_cell_bytes}

-- the texels of a rectangle of a level, row by row, with this number of samples each
pub record CachedTile : Type 0 where
  pub key : ℕ
  pub rect : Rect
  pub channels : ℕ
  pub texels : List ℕ

-- a tile of these parts
abbrev pub cached_tile : ℕ → Rect → ℕ → List ℕ → CachedTile
cached_tile key rect channels texels =
    record { key = key; rect = rect; channels = channels; texels = texels }

-- the bytes that the budget charges: two per sample
abbrev pub tile_bytes : CachedTile → ℕ
tile_bytes tile = 2 * length tile.texels

-- It has a possible number of channels, samples for each texel of its rectangle, and no more bytes
-- than a cell may have.
pub record IsTile (tile : CachedTile) : Type 0 where
  pub channels : IsChannelCount tile.channels
  pub texels : length tile.texels ≡ tile.rect.w * tile.rect.h * tile.channels
  pub bytes : tile_bytes tile ≤ max_cell_bytes

-- the index of the first sample of texel (x, y) of the level
abbrev pub place_in : CachedTile → ℕ → ℕ → ℕ
place_in tile x y = ((y - tile.rect.y) * tile.rect.w + (x - tile.rect.x)) * tile.channels

-- sample c of texel (x, y) of the level
abbrev pub kept_sample : CachedTile → ℕ → ℕ → ℕ → ℕ
kept_sample tile x y c = slice_index tile.texels (place_in tile x y + c)

-- the tile contains the n texels from (x, y) on, side by side
pub record HoldsRow (tile : CachedTile) (x y n : ℕ) : Type 0 where
  pub left : tile.rect.x ≤ x
  pub right : x + n ≤ tile.rect.x + tile.rect.w
  pub top : tile.rect.y ≤ y
  pub bottom : y < tile.rect.y + tile.rect.h

-- these are the samples of those texels
pub record AreSamples (tile : CachedTile) (x y n : ℕ) (samples : List ℕ) : Type 0 where
  pub count : length samples ≡ n * tile.channels
  pub each : (i c : ℕ) → i < n → c < tile.channels
      → slice_index samples (i * tile.channels + c) ≡ kept_sample tile (x + i) y c
