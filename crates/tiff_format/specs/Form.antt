-- What is the form of a file: its byte order, and the sizes of its parts? (TIFF 6.0, section 2,
-- "Image File Header" and "Image File Directory"; for BigTIFF docs/FORMAT.md, "Wide offsets")
--
-- The sizes of the parts are defined only here.
use Rattle.std.specs.Prelude.{ℕ, ◌-◌, ◌+◌, List, if◌then◌else◌}
use Rattle.tiff_format.specs.declared.form.Form.{Form}
use Rattle.tiff_format.specs.Bytes.{number_at, is_big, has_wide_offsets}

-- the form of a file with these bytes
abbrev pub form_of : List ℕ → Form
form_of bytes = record { big = is_big bytes; wide = has_wide_offsets bytes }

-- the bytes of the header
abbrev pub header_bytes : Form → ℕ
header_bytes form = if form.wide then 16 else 8

-- the bytes of a directory's number of entries
abbrev pub count_bytes : Form → ℕ
count_bytes form = if form.wide then 8 else 2

-- the bytes of an entry
abbrev pub entry_bytes : Form → ℕ
entry_bytes form = if form.wide then 20 else 12

-- the bytes of an offset, and of an entry's number of values
abbrev pub offset_bytes : Form → ℕ
offset_bytes form = if form.wide then 8 else 4

-- the bytes of an entry's tag, and of its type
abbrev pub tag_bytes : ℕ
tag_bytes = 2

abbrev pub type_bytes : ℕ
type_bytes = 2

-- where in an entry its number of values is, and after it its values or their offset
abbrev pub values_count_at : ℕ
values_count_at = tag_bytes + type_bytes

abbrev pub value_field_at : Form → ℕ
value_field_at form = values_count_at + offset_bytes form

-- the offset in the bytes at a place
abbrev pub offset_at : Form → List ℕ → ℕ → ℕ
offset_at form bytes at = number_at form.big (offset_bytes form) bytes at

-- the place of the first directory, from the last bytes of the header
abbrev pub first_place : Form → List ℕ → ℕ
first_place form bytes = offset_at form bytes (header_bytes form - offset_bytes form)
