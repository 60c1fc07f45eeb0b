-- How do the functions of this crate describe the samples of a part?
use Rattle.std.specs.Prelude.{◌≡◌, ℕ, ◌+◌, ◌*◌, ◌%◌, ◌<◌, IsTrue, IsSomeAnd, List, slice_index}
use Rattle.tex_world.specs.World.{Files}
use Rattle.tiff_format.specs.Block.{Level}
use Rattle.tiff_format.specs.Texel.{plane_of}
use Rattle.tile_layout.specs.Cell.{channels_of, bit_depth_of}
use Rattle.tile_layout.specs.Kept.{kept_of}
use Rattle.tile_layout.specs.Level.{width_in}
use Rattle.tile_layout.specs.Plane.{plane_level}
use Rattle.tile_layout.specs.Texel.{texel_at, FitDepth}
use Rattle.piece_samples.specs.Beyond.{IsBeyond}
use Rattle.tile_slots.specs.declared.extent.Extent.{Extent}
use Rattle.tile_slots.specs.declared.part_key.PartKey.{PartKey}
use Rattle.tile_slots.specs.RowPart.{part_left, part_texels, texels_of}

-- these are the samples of a part in a file with these bytes, all samples of a texel together,
-- within the file's number of bits
pub record ArePartOf (bytes : List ℕ) (extent : Extent) (samples : List ℕ) : Type 0 where
  pub wide : extent.texels ≡ texels_of (width_in (kept_of bytes) extent.key.level) extent.key
  pub count : extent.channels ≡ channels_of bytes
  pub each : (i c : ℕ) → i < extent.texels → c < extent.channels
      → slice_index samples (i * extent.channels + c)
      ≡ texel_at bytes extent.key.level (part_left extent.key + i) extent.key.row c
  pub low : FitDepth (bit_depth_of bytes) samples

-- in a modelled world, these are the samples of the part in the key's generation of its file
abbrev pub IsToldPart : Files → Extent → List ℕ → Type 0
IsToldPart files extent samples = IsTrue files.tells
    → IsSomeAnd (files.held extent.key.file extent.key.generation)
    (λ bytes. ArePartOf bytes extent samples)

-- the part is that of the key, has a texel in column x, and n samples per texel
pub record HasTexel (extent : Extent) (key : PartKey) (x n : ℕ) : Type 0 where
  pub key_is : extent.key ≡ key
  pub channels_is : extent.channels ≡ n
  pub column : x % part_texels < extent.texels

-- for n texels of a row from (x, y) on: each sample of a piece beyond this length of the file is 0
abbrev pub AreRowZeros : Level → ℕ → ℕ → ℕ → ℕ → List ℕ → Type 0
AreRowZeros level len x y n samples = (i c : ℕ) → i < n → c < level.shape.channels
    → IsBeyond (plane_level level (plane_of level.shape c)) (x + n) len (x + i) y
    → slice_index samples (i * level.shape.channels + c) ≡ 0
