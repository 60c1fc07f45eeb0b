-- What do the fields with a single number say about the level of a directory?
use Rattle.std.specs.Prelude.{◌≡◌, ℕ, Bool, false, ◌==◌, ◌&&◌, ◌||◌, not, nat_lt, List, [], ◌∷◌}
use Rattle.std.specs.Prelude.{map, Option, Some, None}
use Rattle.std.specs.Option.{option_map_or}
use Rattle.std.specs.Bool.{then_some}
use Rattle.tiff_format.specs.declared.form.Form.{Form}
use Rattle.tiff_entries.specs.declared.tag.TheConstants.{NUMBERS}
use Rattle.tiff_dirs.specs.declared.numbers.Numbers.{Numbers}
use Rattle.tiff_format.specs.declared.fault.TiffFault.{TiffFault}
use Rattle.tiff_format.specs.declared.fault.TiffFault.TheVariants.{Unsupported, ZeroSize, TooLarge}
use Rattle.tiff_format.specs.declared.fault.TiffFault.TheVariants.{TileShape}
use Rattle.tiff_format.specs.Tag.{image_width_tag, image_length_tag, bits_per_sample_tag}
use Rattle.tiff_format.specs.Tag.{compression_tag, photometric_tag, strip_offsets_tag}
use Rattle.tiff_format.specs.Tag.{samples_per_pixel_tag, planar_configuration_tag, tile_offsets_tag}
use Rattle.tiff_format.specs.Field.{field_value}
use Rattle.tiff_format.specs.Block.{LevelShape, shape_of, tile_of, strip_rows, planes_by}
use Rattle.tiff_format.specs.DirectoryFault.{first_of, is_tile_side}
use Rattle.tiff_format.specs.Limits.{max_side, max_channels}
use Rattle.tiff_format.specs.DirectoryFault.{unsupported_fault}
use Rattle.tiff_entries.specs.Entries.{entries_fault}
use Rattle.tiff_format.specs.DirectoryFault.{zero_fault, large_fault, tile_fault}

-- the first values of the fields that are read in every directory
abbrev pub numbers_at : Form → List ℕ → ℕ → List ℕ
numbers_at form bytes at = map (field_value form bytes at) NUMBERS

-- the numbers are those of the directory at a place
pub record AreNumbersAt (form : Form) (bytes : List ℕ) (at : ℕ) (n : Numbers) : Type 0 where
  pub width : n.width ≡ field_value form bytes at image_width_tag
  pub height : n.height ≡ field_value form bytes at image_length_tag
  pub bits : n.bits ≡ field_value form bytes at bits_per_sample_tag
  pub compression : n.compression ≡ field_value form bytes at compression_tag
  pub photometric : n.photometric ≡ field_value form bytes at photometric_tag
  pub samples : n.samples ≡ field_value form bytes at samples_per_pixel_tag
  pub planar : n.planar ≡ field_value form bytes at planar_configuration_tag
  pub tile : n.tile ≡ tile_of form bytes at
  pub rows : n.rows_per_strip ≡ strip_rows form bytes at

-- the shape given by these numbers
abbrev pub numbers_shape : Numbers → LevelShape
numbers_shape n = shape_of n.width n.height n.samples (planes_by n.planar n.samples) n.bits
    (n.photometric == 0) (n.photometric == 2) n.tile n.rows_per_strip

-- the tag of the field with the offsets of the blocks
abbrev pub tag_of_offsets : Option (ℕ × ℕ) → ℕ
tag_of_offsets None = strip_offsets_tag
tag_of_offsets (Some tile) = tile_offsets_tag

-- ---- the faults of these numbers

-- 7, without the samples: Compression, PhotometricInterpretation, PlanarConfiguration
abbrev pub value_fault : Numbers → Option TiffFault
value_fault n = first_of
    (then_some (not (n.compression == 1)) (Unsupported compression_tag n.compression)
    ∷ then_some (nat_lt 2 n.photometric) (Unsupported photometric_tag n.photometric)
    ∷ then_some (not ((n.planar == 1) || (n.planar == 2)))
    (Unsupported planar_configuration_tag n.planar) ∷ [])

-- whether a tile has a side that it may not have
abbrev pub is_bad_tile : Option (ℕ × ℕ) → Bool
is_bad_tile tile = option_map_or (λ t. not (is_tile_side t.0 && is_tile_side t.1)) tile false

-- whether a side or the samples per pixel exceed the limits
abbrev pub is_large : Numbers → Bool
is_large n =
    nat_lt max_side n.width || (nat_lt max_side n.height || nat_lt max_channels n.samples)

-- 8 to 10
abbrev pub size_fault : Numbers → Option TiffFault
size_fault n = first_of
    (then_some ((n.width == 0) || ((n.height == 0) || ((n.samples == 0)
    || (n.rows_per_strip == 0)))) ZeroSize
    ∷ then_some (is_large n) TooLarge
    ∷ then_some (is_bad_tile n.tile) TileShape ∷ [])

-- ---- the faults of the directory at a place

module _ (form : Form) (bytes : List ℕ) (at : ℕ) where
  -- 7 to 10
  abbrev pub numbers_fault : Option TiffFault
  numbers_fault = first_of
      (unsupported_fault form bytes at ∷ zero_fault form bytes at ∷ large_fault form bytes at
      ∷ tile_fault form bytes at ∷ [])

  -- 5 to 10: the faults of the fields, except too few offsets
  abbrev pub fields_fault : Option TiffFault
  fields_fault = first_of (entries_fault form bytes at ∷ numbers_fault ∷ [])
