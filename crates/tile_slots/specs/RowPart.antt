-- Which texels has a part of a row, and when are samples those of a texel?
use Rattle.std.specs.Prelude.{◌≡◌, ℕ, ◌+◌, ◌-◌, ◌*◌, ◌%◌, ◌<◌, ◌≤◌, min, IsTrue, IsSomeAnd, List}
use Rattle.std.specs.Prelude.{length, slice_index}
use Rattle.tex_world.specs.Tap.{Named}
use Rattle.tex_world.specs.World.{Files}
use Rattle.tiff_format.specs.Texel.{plane_of, greatest_sample}
use Rattle.tile_layout.specs.Cell.{channels_in, bit_depth_of}
use Rattle.tile_layout.specs.Kept.{Kept, stored_count, level_in}
use Rattle.tile_layout.specs.Level.{width_in, height_in}
use Rattle.tile_layout.specs.Plane.{plane_level}
use Rattle.tile_layout.specs.Texel.{texel_at}
use Rattle.piece_samples.specs.Beyond.{IsAllBeyond, IsBeyond}
use Rattle.piece_samples.specs.TexelRow.{row_rect}
use Rattle.tile_slots.specs.declared.part_key.PartKey.{PartKey}

-- the texels of a part; only the last part of a row can have fewer
abbrev pub part_texels : ℕ
part_texels = 64

-- the first column of a part
abbrev pub part_left : PartKey → ℕ
part_left key = key.part * part_texels

-- the number of texels in a part, for a row of this width
abbrev pub texels_of : ℕ → PartKey → ℕ
texels_of width key = min part_texels (width - part_left key)

-- the slot of a part
abbrev pub slot_of : PartKey → ℕ → ℕ
slot_of key count =
    (key.part + 31 * key.row + 7 * key.level + 13 * key.file + 17 * key.generation) % count

-- the key has the file and the generation that the handle reads
pub record IsPartBy (handle : Named) (key : PartKey) : Type 0 where
  pub file : key.file ≡ handle.file
  pub generation : key.generation ≡ handle.generation

-- the texel in column x of the key's row lies in its level, which is stored, and has n samples
pub record IsTexelOf (layout : Kept) (key : PartKey) (x n : ℕ) : Type 0 where
  pub stored : key.level < stored_count layout
  pub across : x < width_in layout key.level
  pub down : key.row < height_in layout key.level
  pub channels : n ≡ channels_in layout

-- this is sample c of texel (x, y) of a level of a file with these bytes, within the file's number
-- of bits
pub record IsTexelSample (bytes : List ℕ) (level x y c sample : ℕ) : Type 0 where
  pub value : sample ≡ texel_at bytes level x y c
  pub low : sample ≤ greatest_sample (bit_depth_of bytes)

-- these are the samples of the texel in column x of the key's row, in a file with these bytes
abbrev pub AreTexelOf : List ℕ → PartKey → ℕ → List ℕ → Type 0
AreTexelOf bytes key x samples = (c : ℕ) → c < length samples
    → IsTexelSample bytes key.level x key.row c (slice_index samples c)

-- in a modelled world, the key's generation of its file has bytes, and these are the samples of
-- that texel in them
abbrev pub AreToldAt : Files → PartKey → ℕ → List ℕ → Type 0
AreToldAt files key x samples = IsTrue files.tells
    → IsSomeAnd (files.held key.file key.generation) (λ bytes. AreTexelOf bytes key x samples)

-- the column after the last one of the part
abbrev pub part_right : Kept → PartKey → ℕ
part_right layout key =
    part_left key + texels_of (width_in layout key.level) key

-- each sample of the texel is 0 if its piece lies beyond this length of the file
abbrev pub AreTexelZeros : Kept → PartKey → ℕ → ℕ → List ℕ → Type 0
AreTexelZeros layout key len x samples = (c : ℕ) → c < length samples
    → IsBeyond (plane_level (level_in layout key.level)
    (plane_of (level_in layout key.level).shape c)) (part_right layout key) len x key.row
    → slice_index samples c ≡ 0

-- no piece of the part lies below this length of the file
abbrev pub IsPartBeyond : Kept → PartKey → ℕ → Type 0
IsPartBeyond layout key len = IsAllBeyond (level_in layout key.level) len
    (row_rect (part_left key) key.row (texels_of (width_in layout key.level) key))
