-- When are the texels of a tile those of its file? Always, in a modelled world.
use Rattle.std.specs.Prelude.{◌≡◌, ℕ, ◌+◌, ◌*◌, ◌<◌, ◌≤◌, IsTrue, List, slice_index, IsSomeAnd}
use Rattle.tiff_format.specs.Texel.{greatest_sample}
use Rattle.tex_world.specs.World.{Files}
use Rattle.tile_layout.specs.Key.{generation_of, file_of, level_of}
use Rattle.tile_layout.specs.Cell.{channels_of, bit_depth_of}
use Rattle.tile_layout.specs.Texel.{texel_at, AreTexelsOn, FitDepth}
use Rattle.tile_store.specs.Tile.{CachedTile}

-- in a modelled world, the key's generation of its file has bytes, and `P` holds of them
abbrev pub ToldBy : Files → ℕ → (List ℕ → Type 0) → Type 0
ToldBy files key P =
    IsTrue files.tells → IsSomeAnd (files.held (file_of key) (generation_of key)) P

-- the tile has the samples of a file with these bytes, and its texels are those of its level,
-- within the file's number of bits
pub record IsOfBytes (bytes : List ℕ) (tile : CachedTile) : Type 0 where
  pub channels : tile.channels ≡ channels_of bytes
  pub texels : AreTexelsOn (texel_at bytes (level_of tile.key)) tile.channels tile.rect tile.texels
  pub low : FitDepth (bit_depth_of bytes) tile.texels

-- in a modelled world, the tile belongs to its file's bytes
abbrev pub IsTold : Files → CachedTile → Type 0
IsTold files tile = ToldBy files tile.key (λ bytes. IsOfBytes bytes tile)

-- this is sample c of texel (x, y) of the key's level in a file with these bytes, within the file's
-- number of bits
pub record IsSampleOf (bytes : List ℕ) (key x y c sample : ℕ) : Type 0 where
  pub value : sample ≡ texel_at bytes (level_of key) x y c
  pub low : sample ≤ greatest_sample (bit_depth_of bytes)

-- in a modelled world, this is sample c of texel (x, y) of the key's level
abbrev pub IsToldSample : Files → CachedTile → ℕ → ℕ → ℕ → ℕ → Type 0
IsToldSample files tile x y c sample =
    ToldBy files tile.key (λ bytes. IsSampleOf bytes tile.key x y c sample)

-- in a modelled world, these are the samples of n texels of the key's level, from (x, y) on
abbrev pub AreToldSamples : Files → CachedTile → ℕ → ℕ → ℕ → List ℕ → Type 0
AreToldSamples files tile x y n samples = ToldBy files tile.key (λ bytes.
    (i c : ℕ) → i < n → c < tile.channels
    → IsSampleOf bytes tile.key (x + i) y c (slice_index samples (i * tile.channels + c)))
