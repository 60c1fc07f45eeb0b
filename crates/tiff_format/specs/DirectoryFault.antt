-- Which faults can a directory and the blocks of a level have, and in which order? (docs/FORMAT.md,
-- "Faults")
use Rattle.std.specs.Prelude.{ℕ, ◌+◌, ◌%◌, Bool, false, ◌==◌, ◌&&◌, ◌||◌, not, nat_le, nat_lt, List}
use Rattle.std.specs.Prelude.{[], ◌∷◌, length, take, slice_index, find, Option, Some, None}
use Rattle.std.specs.Prelude.{if◌then◌else◌}
use Rattle.std.specs.Option.{option_or, option_map, option_map_or}
use Rattle.std.specs.Bool.{then_some}
use Rattle.std.specs.List.{range_with_len}
use Rattle.tiff_format.specs.declared.form.Form.{Form}
use Rattle.tiff_format.specs.declared.fault.TiffFault.{TiffFault}
use Rattle.tiff_format.specs.declared.fault.TiffFault.TheVariants.{DirOutside, FieldMissing}
use Rattle.tiff_format.specs.declared.fault.TiffFault.TheVariants.{FieldShape, Unsupported}
use Rattle.tiff_format.specs.declared.fault.TiffFault.TheVariants.{ZeroSize, TooLarge, TileShape}
use Rattle.tiff_format.specs.declared.fault.TiffFault.TheVariants.{OffsetCount, DataOutside}
use Rattle.tiff_format.specs.Form.{header_bytes}
use Rattle.tiff_format.specs.Tag.{image_width_tag, image_length_tag, bits_per_sample_tag}
use Rattle.tiff_format.specs.Tag.{compression_tag, photometric_tag, strip_offsets_tag}
use Rattle.tiff_format.specs.Tag.{samples_per_pixel_tag, rows_per_strip_tag}
use Rattle.tiff_format.specs.Tag.{planar_configuration_tag, tile_width_tag, tile_length_tag}
use Rattle.tiff_format.specs.Tag.{tile_offsets_tag, sample_format_tag}
use Rattle.tiff_format.specs.Limits.{max_side, max_channels, tile_step}
use Rattle.tiff_format.specs.Directory.{lies_inside}
use Rattle.tiff_format.specs.Field.{field_place, has_field, has_shape, field_values, field_value}
use Rattle.tiff_format.specs.Block.{Level, is_tiled, offsets_tag, shape_at, blocks_of, block_bytes}

-- the first fault in a list
abbrev pub first_of : List (Option TiffFault) → Option TiffFault
first_of [] = None
first_of (fault ∷ faults) = option_or fault (first_of faults)

-- whether a tile may have this side: a multiple of 16, and not 0
abbrev pub is_tile_side : ℕ → Bool
is_tile_side side = nat_lt 0 side && (nat_le side max_side && (side % tile_step == 0))

-- ---- the faults of the directory at a place, in order

module _ (form : Form) (bytes : List ℕ) (at : ℕ) where
  -- 4: it does not lie in the file
  unfoldable pub outside_fault : Option TiffFault
  outside_fault = then_some (not (lies_inside form bytes at)) DirOutside

  -- the tags of the required fields
  abbrev pub required_tags : List ℕ
  required_tags =
      image_width_tag ∷ image_length_tag
      ∷ (if is_tiled form bytes at then tile_length_tag ∷ tile_offsets_tag ∷ []
      else strip_offsets_tag ∷ [])

  -- 5: the first required field that is missing
  unfoldable pub missing_fault : Option TiffFault
  missing_fault = option_map FieldMissing
      (find (λ tag. not (has_field form bytes at tag)) required_tags)

  -- the tags of the fields that are read
  abbrev pub read_tags : List ℕ
  read_tags =
      if is_tiled form bytes at
      then image_width_tag ∷ image_length_tag ∷ bits_per_sample_tag ∷ compression_tag
      ∷ photometric_tag ∷ samples_per_pixel_tag ∷ planar_configuration_tag ∷ tile_width_tag
      ∷ tile_length_tag ∷ tile_offsets_tag ∷ sample_format_tag ∷ []
      else image_width_tag ∷ image_length_tag ∷ bits_per_sample_tag ∷ compression_tag
      ∷ photometric_tag ∷ strip_offsets_tag ∷ samples_per_pixel_tag ∷ rows_per_strip_tag
      ∷ planar_configuration_tag ∷ sample_format_tag ∷ []

  -- whether the field is there but cannot be read
  abbrev pub is_misshapen : ℕ → Bool
  is_misshapen tag =
      option_map_or (λ place. not (has_shape form bytes place)) (field_place form bytes at tag)
      false

  -- 6: the field with the lowest tag that is there but cannot be read
  unfoldable pub shape_fault : Option TiffFault
  shape_fault = option_map FieldShape (find is_misshapen read_tags)

  -- the number of samples per pixel
  abbrev pub samples : ℕ
  samples = field_value form bytes at samples_per_pixel_tag

  -- the first value of a field that fails a test, among as many values as a pixel has samples
  abbrev pub other_sample : ℕ → (ℕ → Bool) → Option ℕ
  other_sample tag test = find (λ v. not (test v)) (take samples (field_values form bytes at tag))

  -- 7, BitsPerSample: neither 8 nor 16, or not the same for all samples
  abbrev pub bits_fault : Option TiffFault
  bits_fault =
      let bits = field_value form bytes at bits_per_sample_tag in
      if (bits == 8) || (bits == 16)
      then option_map (Unsupported bits_per_sample_tag)
      (other_sample bits_per_sample_tag (λ v. v == bits))
      else Some (Unsupported bits_per_sample_tag bits)

  -- 7, Compression: 1 is uncompressed
  abbrev pub compression_fault : Option TiffFault
  compression_fault =
      let v = field_value form bytes at compression_tag in
      then_some (not (v == 1)) (Unsupported compression_tag v)

  -- 7, PhotometricInterpretation: 0 WhiteIsZero, 1 BlackIsZero, 2 RGB
  abbrev pub photometric_fault : Option TiffFault
  photometric_fault =
      let v = field_value form bytes at photometric_tag in
      then_some (nat_lt 2 v) (Unsupported photometric_tag v)

  -- 7, PlanarConfiguration: 1 is chunky, and 2 is planar
  abbrev pub planar_fault : Option TiffFault
  planar_fault =
      let v = field_value form bytes at planar_configuration_tag in
      then_some (not ((v == 1) || (v == 2))) (Unsupported planar_configuration_tag v)

  -- 7, SampleFormat: 1 is unsigned, and 4, undefined, counts as 1
  abbrev pub format_fault : Option TiffFault
  format_fault = option_map (Unsupported sample_format_tag)
      (other_sample sample_format_tag (λ v. (v == 1) || (v == 4)))

  -- 7: the first of these cases
  unfoldable pub unsupported_fault : Option TiffFault
  unsupported_fault = first_of
      (bits_fault ∷ compression_fault ∷ photometric_fault ∷ planar_fault ∷ format_fault ∷ [])

  -- 8: a side, the samples per pixel or the rows per strip are 0
  unfoldable pub zero_fault : Option TiffFault
  zero_fault = then_some
      ((field_value form bytes at image_width_tag == 0)
      || ((field_value form bytes at image_length_tag == 0) || ((samples == 0)
      || (not (is_tiled form bytes at) && (field_value form bytes at rows_per_strip_tag == 0)))))
      ZeroSize

  -- 9: a side or the samples per pixel exceed the limits
  unfoldable pub large_fault : Option TiffFault
  large_fault = then_some
      (nat_lt max_side (field_value form bytes at image_width_tag)
      || (nat_lt max_side (field_value form bytes at image_length_tag)
      || nat_lt max_channels samples)) TooLarge

  -- 10: a tile has a side that it may not have
  unfoldable pub tile_fault : Option TiffFault
  tile_fault = then_some
      (is_tiled form bytes at
      && not (is_tile_side (field_value form bytes at tile_width_tag)
      && is_tile_side (field_value form bytes at tile_length_tag))) TileShape

  -- 11: there are fewer offsets than blocks
  unfoldable pub count_fault : Option TiffFault
  count_fault = then_some
      (nat_lt (length (field_values form bytes at (offsets_tag form bytes at)))
      (blocks_of (shape_at form bytes at))) OffsetCount

  -- the first fault of the directory
  unfoldable pub directory_fault : Option TiffFault
  directory_fault = first_of
      (outside_fault ∷ missing_fault ∷ shape_fault ∷ unsupported_fault
      ∷ zero_fault ∷ large_fault ∷ tile_fault ∷ count_fault ∷ [])

-- ---- the blocks of a level

-- whether block i lies in the file, after the header
abbrev pub block_inside : Form → List ℕ → Level → ℕ → Bool
block_inside form bytes level i =
    nat_le (header_bytes form) (slice_index level.offsets i)
    && nat_le (slice_index level.offsets i + block_bytes level.shape i) (length bytes)

-- 12: the first block of a level that does not lie in the file
unfoldable pub data_fault : Form → List ℕ → ℕ → Level → Option TiffFault
data_fault form bytes number level =
    option_map (DataOutside number)
    (find (λ i. not (block_inside form bytes level i)) (range_with_len 0 (blocks_of level.shape)))
