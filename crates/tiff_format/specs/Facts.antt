-- What is true of every directory that was read, whether or not its bytes are modelled?
use Rattle.std.specs.Prelude.{◌≡◌, ℕ, suc, ◌+◌, ◌^◌, ◌<◌, ◌≤◌, ◌%◌, IsTrue, ◌==◌, ◌||◌, List}
use Rattle.std.specs.Prelude.{false, length, slice_index, slice_index_or, Option}
use Rattle.std.specs.Option.{ForSome}
use Rattle.tiff_format.specs.Block.{LevelShape, Level, blocks_of, block_bytes}
use Rattle.tiff_format.specs.Limits.{max_side, max_channels, tile_step}
use Rattle.tiff_format.specs.Level.{max_levels, is_single, has_half_size, has_samples_of}

-- a possible side of an image
pub record IsSide (side : ℕ) : Type 0 where
  pub low : 1 ≤ side
  pub high : side ≤ max_side

-- a possible side of a tile, which is also a multiple of 16
pub record IsTileSide (side : ℕ) : Type 0 where
  pub low : tile_step ≤ side
  pub high : side ≤ max_side
  pub multiple : side % tile_step ≡ 0

-- a possible number of channels
pub record IsChannelCount (channels : ℕ) : Type 0 where
  pub low : 1 ≤ channels
  pub high : channels ≤ max_channels

-- a possible number of planes: 1, or one per channel
abbrev pub IsPlaneCount : ℕ → ℕ → Type 0
IsPlaneCount channels planes = IsTrue ((planes == 1) || (planes == channels))

-- a possible number of bits per sample
abbrev pub IsDepth : ℕ → Type 0
IsDepth depth = IsTrue ((depth == 8) || (depth == 16))

-- the sides of a tile, if there is one, are possible
abbrev pub HasTileSides : Option (ℕ × ℕ) → Type 0
HasTileSides tile = ForSome tile (λ t. IsTileSide t.0 × IsTileSide t.1)

-- What is true of the shape of every level that was read.
pub record IsLevelShape (shape : LevelShape) : Type 0 where
  pub width : IsSide shape.width
  pub height : IsSide shape.height
  pub channels : IsChannelCount shape.channels
  pub planes : IsPlaneCount shape.channels shape.planes
  pub depth : IsDepth shape.depth
  pub tile : HasTileSides shape.tile
  pub rows : 1 ≤ shape.rows_per_strip

-- What is true of every level that was read: there is one offset for each block, and no block ends
-- past 2^64.
pub record HasOffsets (level : Level) : Type 0 where
  pub count : length level.offsets ≡ blocks_of level.shape
  pub ends : (i : ℕ) → i < length level.offsets
      → slice_index level.offsets i + block_bytes level.shape i < 2 ^ 64

-- The levels of a file: 1 to 18 of them, each half the size of the one before, all with the same
-- channels and depth. No level follows one of a single texel.
pub record IsChain (levels : List Level) : Type 0 where
  pub some : 1 ≤ length levels
  pub few : length levels ≤ max_levels
  pub half : (k : ℕ) (d : Level) → suc k < length levels
      → IsTrue (has_half_size (slice_index_or levels k d).shape
      (slice_index_or levels (suc k) d).shape)
  pub samples : (k : ℕ) (d : Level) → k < length levels
      → IsTrue (has_samples_of (slice_index_or levels 0 d).shape (slice_index_or levels k d).shape)
  pub larger : (k : ℕ) (d : Level) → suc k < length levels
      → is_single (slice_index_or levels k d).shape ≡ false
