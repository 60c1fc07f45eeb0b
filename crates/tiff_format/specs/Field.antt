-- Which values does a field of a directory have?
-- (TIFF 6.0, section 2, "IFD Entry", "Types" and "Value/Offset")
-- An entry is its tag, its type, its count of values, and its values or their offset.
-- Type 3 is SHORT (2 bytes) and type 4 is LONG (4 bytes). Where offsets are wide, type 16 is LONG8
-- (8 bytes). No other type is read.
use Rattle.std.specs.Prelude.{ℕ, zero, suc, ◌+◌, ◌-◌, ◌*◌, ◌^◌, Bool, ◌==◌, ◌&&◌, ◌||◌, nat_le}
use Rattle.std.specs.Prelude.{nat_lt, List, [], ◌∷◌, length, map, slice_index, Option, Some, None}
use Rattle.std.specs.Prelude.{is_some, if◌then◌else◌}
use Rattle.std.specs.Option.{option_map_or}
use Rattle.std.specs.List.{range_with_len}
use Rattle.tiff_format.specs.declared.form.Form.{Form}
use Rattle.tiff_format.specs.Bytes.{number_at}
use Rattle.tiff_format.specs.Form.{entry_bytes, offset_bytes, offset_at, tag_bytes, type_bytes}
use Rattle.tiff_format.specs.Form.{values_count_at, value_field_at}
use Rattle.tiff_format.specs.Tag.{bits_per_sample_tag, compression_tag, photometric_tag}
use Rattle.tiff_format.specs.Tag.{samples_per_pixel_tag, rows_per_strip_tag}
use Rattle.tiff_format.specs.Tag.{planar_configuration_tag, sample_format_tag}
use Rattle.tiff_format.specs.Directory.{entry_count, entry_place}

-- the place of the first entry with a tag among n entries, the first of which is at a place
unfoldable pub first_entry : Form → ℕ → List ℕ → ℕ → ℕ → Option ℕ
first_entry form tag bytes place zero = None
first_entry form tag bytes place (suc n) =
    if number_at form.big tag_bytes bytes place == tag then Some place
    else first_entry form tag bytes (place + entry_bytes form) n

-- the place of the first entry with a tag in the directory at a place; later entries with that tag
-- do not count
unfoldable pub field_place : Form → List ℕ → ℕ → ℕ → Option ℕ
field_place form bytes at tag =
    first_entry form tag bytes (entry_place form at 0) (entry_count form bytes at)

-- whether the directory has an entry with this tag
abbrev pub has_field : Form → List ℕ → ℕ → ℕ → Bool
has_field form bytes at tag = is_some (field_place form bytes at tag)

-- ---- an entry at a place

abbrev pub type_of : Form → List ℕ → ℕ → ℕ
type_of form bytes place = number_at form.big type_bytes bytes (place + tag_bytes)

-- the number of values
abbrev pub count_of : Form → List ℕ → ℕ → ℕ
count_of form bytes place = offset_at form bytes (place + values_count_at)

-- the types that are read
abbrev pub short_type : ℕ
short_type = 3

abbrev pub long_type : ℕ
long_type = 4

-- LONG8, only in BigTIFF
abbrev pub long8_type : ℕ
long8_type = 16

-- whether the type is LONG8 and is read
abbrev pub is_long8 : Form → ℕ → Bool
is_long8 form kind = form.wide && (kind == long8_type)

-- whether the type is read
abbrev pub is_read : Form → ℕ → Bool
is_read form kind = (kind == short_type) || ((kind == long_type) || is_long8 form kind)

-- the bytes per value of a type; 0 for a type that is not read
abbrev pub type_size : Form → ℕ → ℕ
type_size form kind =
    if kind == short_type then 2
    else (if kind == long_type then 4 else (if is_long8 form kind then 8 else 0))

-- the bytes per value of the entry
abbrev pub value_size : Form → List ℕ → ℕ → ℕ
value_size form bytes place = type_size form (type_of form bytes place)

-- where the values are: in the last bytes of the entry, from the left, if they fit there; otherwise
-- at the offset there
unfoldable pub values_place : Form → List ℕ → ℕ → ℕ
values_place form bytes place =
    if nat_le (count_of form bytes place * value_size form bytes place) (offset_bytes form)
    then place + value_field_at form
    else offset_at form bytes (place + value_field_at form)

-- value i
unfoldable pub entry_value : Form → List ℕ → ℕ → ℕ → ℕ
entry_value form bytes place i =
    number_at form.big (value_size form bytes place) bytes
    (values_place form bytes place + value_size form bytes place * i)

-- the type is one that is read, there is at least one value, and the values lie in the file
unfoldable pub has_shape : Form → List ℕ → ℕ → Bool
has_shape form bytes place =
    is_read form (type_of form bytes place)
    && (nat_lt 0 (count_of form bytes place)
    && nat_le (values_place form bytes place
    + count_of form bytes place * value_size form bytes place) (length bytes))

-- the values; none if the entry cannot be read
unfoldable pub entry_values : Form → List ℕ → ℕ → List ℕ
entry_values form bytes place =
    if has_shape form bytes place
    then map (λ i. entry_value form bytes place i) (range_with_len 0 (count_of form bytes place))
    else []

-- ---- a field of the directory at a place

-- RowsPerStrip if the directory does not have it: all rows are one strip. A greater number is
-- replaced by this one, which makes no difference.
abbrev pub all_rows : ℕ
all_rows = 2 ^ 32 - 1

-- the default of a tag, as a list with one value or none (TIFF 6.0, section 8; the default of
-- PhotometricInterpretation is our own)
abbrev pub default_of : ℕ → List ℕ
default_of tag =
    if (tag == bits_per_sample_tag) || ((tag == compression_tag) || ((tag == photometric_tag)
    || ((tag == samples_per_pixel_tag) || ((tag == planar_configuration_tag)
    || (tag == sample_format_tag))))) then 1 ∷ []
    else (if tag == rows_per_strip_tag then all_rows ∷ [] else [])

-- The values of a field: those of the first entry with its tag, or its default. There are none if
-- the tag is missing and has no default, or if the entry cannot be read.
unfoldable pub field_values : Form → List ℕ → ℕ → ℕ → List ℕ
field_values form bytes at tag =
    option_map_or (entry_values form bytes) (field_place form bytes at tag) (default_of tag)

-- the value of a field with a single number: its first value
abbrev pub field_value : Form → List ℕ → ℕ → ℕ → ℕ
field_value form bytes at tag = slice_index (field_values form bytes at tag) 0
