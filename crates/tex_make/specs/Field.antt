-- Which bytes are a directory of fields whose values rise in equal steps? (TIFF 6.0, section 2,
-- "Image File Directory" and "IFD Entry"; numbers have their lowest byte first)
use Rattle.std.specs.Prelude.{ℕ, ◌+◌, ◌-◌, ◌*◌, ◌^◌, ◌<◌, Bool, nat_le, List, [], ◌∷◌, ◌++◌, length}
use Rattle.std.specs.Prelude.{replicate, if◌then◌else◌}
use Rattle.std.specs.Int.{w16, w32, to_le_bytes}
use Rattle.std.specs.List.{flat_map}
use Rattle.tiff_format.specs.Field.{short_type, long_type}
use Rattle.tex_make.specs.declared.field.FieldKind.{FieldKind}
use Rattle.tex_make.specs.declared.field.FieldKind.TheVariants.{Short, Long}
use Rattle.tex_make.specs.declared.field.Field.{Field}
use Rattle.tex_make.specs.Joined.{joined}

-- the number of a type
abbrev pub type_number : FieldKind → ℕ
type_number Short = short_type
type_number Long = long_type

-- the number of bytes per value
abbrev pub number_size : FieldKind → ℕ
number_size Short = 2
number_size Long = 4

-- the bytes of a value
abbrev pub number_bytes : FieldKind → ℕ → List ℕ
number_bytes Short n = to_le_bytes w16 n
number_bytes Long n = to_le_bytes w32 n

-- a number fits the type
abbrev pub FitsKind : FieldKind → ℕ → Type 0
FitsKind Short n = n < 2 ^ 16
FitsKind Long n = n < 2 ^ 32

-- value i of a field
abbrev pub number_in : Field → ℕ → ℕ
number_in field i = field.first + field.step * i

-- the number of bytes of a field's values
abbrev pub field_size : Field → ℕ
field_size field = field.count * number_size field.kind

-- the bytes of a field's values
abbrev pub field_bytes : Field → List ℕ
field_bytes field = joined (λ i. number_bytes field.kind (number_in field i)) field.count

-- whether the values fit in the entry
abbrev pub fits_entry : Field → Bool
fits_entry field = nat_le (field_size field) 4

-- the last four bytes of an entry: the values from the left if they fit, otherwise their place
abbrev pub value_part : Field → ℕ → List ℕ
value_part field place =
    if fits_entry field then field_bytes field ++ replicate (4 - field_size field) 0
    else to_le_bytes w32 place

-- the entry of a field: tag, type, number of values, and the values or their place
unfoldable pub entry_of : Field → ℕ → List ℕ
entry_of field place =
    to_le_bytes w16 field.tag ++ (to_le_bytes w16 (type_number field.kind)
    ++ (to_le_bytes w32 field.count ++ value_part field place))

-- the bytes of a field's values that come after the directory, by number and as a list
abbrev pub outside_size : Field → ℕ
outside_size field = if fits_entry field then 0 else field_size field

abbrev pub outside_bytes : Field → List ℕ
outside_bytes field = if fits_entry field then [] else field_bytes field

-- the number of bytes of all values that do not fit in their entries
abbrev pub all_outside : List Field → ℕ
all_outside [] = 0
all_outside (field ∷ fields) = outside_size field + all_outside fields

-- the entries of fields; the values that do not fit begin at a place
abbrev pub entries_of : ℕ → List Field → List ℕ
entries_of place [] = []
entries_of place (field ∷ fields) =
    entry_of field place ++ entries_of (place + outside_size field) fields

-- the bytes of a directory of n entries, without values that do not fit
abbrev pub directory_part : ℕ → ℕ
directory_part n = 2 + 12 * n + 4

-- the bytes of a directory with the values that do not fit
abbrev pub directory_size : List Field → ℕ
directory_size fields = directory_part (length fields) + all_outside fields

-- The directory of these fields, which begins at a place: the number of entries, the entries, the
-- place of the next directory, and the values that do not fit, in the order of the fields.
unfoldable pub directory_bytes : ℕ → ℕ → List Field → List ℕ
directory_bytes at next fields =
    to_le_bytes w16 (length fields)
    ++ (entries_of (at + directory_part (length fields)) fields
    ++ (to_le_bytes w32 next ++ flat_map outside_bytes fields))

-- each value of a field fits its type
pub record IsField (field : Field) : Type 0 where
  pub low : field.first + field.step * field.count < 2 ^ 32
  pub size : field.count * number_size field.kind < 2 ^ 32
  pub fits : (i : ℕ) → i < field.count → FitsKind field.kind (number_in field i)
