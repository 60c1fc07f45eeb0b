-- Which strips or tiles does a directory have, and where are their bytes? (TIFF 6.0, sections 4,
-- "Rows and Columns", 15, "Tiled Images", and 8 on PlanarConfiguration)
use Rattle.std.specs.Prelude.{ℕ, ◌+◌, ◌-◌, ◌*◌, ◌/◌, ◌%◌, ◌==◌, Bool, min, List, take, Option}
use Rattle.std.specs.Prelude.{Some, None, if◌then◌else◌}
use Rattle.tiff_format.specs.declared.form.Form.{Form}
use Rattle.tiff_format.specs.Tag.{image_width_tag, image_length_tag, bits_per_sample_tag}
use Rattle.tiff_format.specs.Tag.{photometric_tag, samples_per_pixel_tag, rows_per_strip_tag}
use Rattle.tiff_format.specs.Tag.{planar_configuration_tag, strip_offsets_tag, tile_width_tag}
use Rattle.tiff_format.specs.Tag.{tile_length_tag, tile_offsets_tag}
use Rattle.tiff_format.specs.Field.{field_value, field_values, has_field, all_rows}

-- The shape of a level: everything except the offsets of its blocks. For a tiled level RowsPerStrip
-- is not read, and counts as all rows.
pub record LevelShape : Type 0 where
  pub width : ℕ
  pub height : ℕ
  pub channels : ℕ
  -- 1 if the samples of a pixel are stored together, otherwise one per channel
  pub planes : ℕ
  -- the bits per sample, 8 or 16
  pub depth : ℕ
  -- whether the photometric interpretation is WhiteIsZero
  pub white : Bool
  -- whether the photometric interpretation is RGB
  pub rgb : Bool
  -- the width and height of a tile, if it is tiled
  pub tile : Option (ℕ × ℕ)
  pub rows_per_strip : ℕ

-- A level, from a valid directory: its shape, and the offsets of its strips or tiles, in order.
pub record Level : Type 0 where
  pub shape : LevelShape
  pub offsets : List ℕ

-- the shape with these fields
abbrev pub shape_of : ℕ → ℕ → ℕ → ℕ → ℕ → Bool → Bool → Option (ℕ × ℕ) → ℕ → LevelShape
shape_of width height channels planes depth white rgb tile rows = record {
  width = width;
  height = height;
  channels = channels;
  planes = planes;
  depth = depth;
  white = white;
  rgb = rgb;
  tile = tile;
  rows_per_strip = rows;
}

-- the level of this shape with these offsets
abbrev pub level_with : LevelShape → List ℕ → Level
level_with shape offsets = record { shape = shape; offsets = offsets }

-- the number of pieces of this length that cover n places
abbrev pub pieces_over : ℕ → ℕ → ℕ
pieces_over n piece = (n + piece - 1) / piece

-- the number of strips of a plane, or of its tiles of this width and height
abbrev pub blocks_by : LevelShape → Option (ℕ × ℕ) → ℕ
blocks_by shape None = pieces_over shape.height shape.rows_per_strip
blocks_by shape (Some tile) = pieces_over shape.width tile.0 * pieces_over shape.height tile.1

-- the number of strips or tiles in a plane of a level
abbrev pub plane_blocks : LevelShape → ℕ
plane_blocks shape = blocks_by shape shape.tile

-- the number of strips or tiles in a level; those of the first plane come first
abbrev pub blocks_of : LevelShape → ℕ
blocks_of shape = shape.planes * plane_blocks shape

-- the bytes of a sample
abbrev pub sample_bytes : ℕ → ℕ
sample_bytes depth = if depth == 8 then 1 else 2

-- the number of samples of a texel that are stored together: all, or one if each channel has its
-- own plane
abbrev pub samples_aside : LevelShape → ℕ
samples_aside shape = if shape.planes == 1 then shape.channels else 1

-- the bytes of those samples of a texel that are stored together
abbrev pub texel_bytes : LevelShape → ℕ
texel_bytes shape = samples_aside shape * sample_bytes shape.depth

-- the number of texels in strip i, or in a tile of this width and height; the last strip of a plane
-- may have fewer rows, and a tile is padded to its full size
abbrev pub block_texels_by : LevelShape → Option (ℕ × ℕ) → ℕ → ℕ
block_texels_by shape None i =
    min shape.rows_per_strip (shape.height - shape.rows_per_strip * (i % blocks_by shape None))
    * shape.width
block_texels_by shape (Some tile) i = tile.0 * tile.1

-- the bytes of strip or tile i
abbrev pub block_bytes : LevelShape → ℕ → ℕ
block_bytes shape i = block_texels_by shape shape.tile i * texel_bytes shape

-- ---- of the directory at a place

-- whether the directory is tiled, that is, has a TileWidth
abbrev pub is_tiled : Form → List ℕ → ℕ → Bool
is_tiled form bytes at = has_field form bytes at tile_width_tag

-- the width and height of its tiles, if it is tiled
abbrev pub tile_of : Form → List ℕ → ℕ → Option (ℕ × ℕ)
tile_of form bytes at =
    if is_tiled form bytes at
    then Some (field_value form bytes at tile_width_tag, field_value form bytes at tile_length_tag)
    else None

-- the tag of the field with the offsets of its blocks
abbrev pub offsets_tag : Form → List ℕ → ℕ → ℕ
offsets_tag form bytes at =
    if is_tiled form bytes at then tile_offsets_tag else strip_offsets_tag

-- the rows per strip: RowsPerStrip, or all rows if it says more
abbrev pub strip_rows : Form → List ℕ → ℕ → ℕ
strip_rows form bytes at =
    if is_tiled form bytes at then all_rows
    else min all_rows (field_value form bytes at rows_per_strip_tag)

-- the number of planes, from PlanarConfiguration (2 is planar) and SamplesPerPixel
abbrev pub planes_by : ℕ → ℕ → ℕ
planes_by planar samples = if planar == 2 then samples else 1

-- the number of planes of the directory
abbrev pub planes_at : Form → List ℕ → ℕ → ℕ
planes_at form bytes at = planes_by (field_value form bytes at planar_configuration_tag)
    (field_value form bytes at samples_per_pixel_tag)

-- The shape of the directory at a place.
abbrev pub shape_at : Form → List ℕ → ℕ → LevelShape
shape_at form bytes at = shape_of
    (field_value form bytes at image_width_tag)
    (field_value form bytes at image_length_tag)
    (field_value form bytes at samples_per_pixel_tag)
    (planes_at form bytes at)
    (field_value form bytes at bits_per_sample_tag)
    (field_value form bytes at photometric_tag == 0)
    (field_value form bytes at photometric_tag == 2)
    (tile_of form bytes at)
    (strip_rows form bytes at)

-- The level of the directory at a place. Offsets beyond the number of blocks are ignored.
unfoldable pub level_at : Form → List ℕ → ℕ → Level
level_at form bytes at = level_with (shape_at form bytes at)
    (take (blocks_of (shape_at form bytes at))
    (field_values form bytes at (offsets_tag form bytes at)))
