-- The values of a field, from what is kept of its entry.
use Rattle.tiff_format.specs.declared.form.Form.{Form}
use Rattle.std.proofs.Common.{◌≡◌, ℕ}
use Rattle.std.proofs.Common.{◌+◌, ◌*◌, ◌<◌, ◌≤◌, true, false, List, [], map}
use Rattle.std.proofs.Common.{length, get_or, Option, Some, None, refl, sym, ap, ◌∙◌, arith}
use Rattle.std.specs.Prelude.{is_some, not}
use Rattle.std.specs.Option.{option_to_list, unwrap_or}
use Rattle.std.specs.List.{range_with_len}
use Rattle.std.proofs.lemmas.List.FromFn.{get_or-map-range_with_len, length-map-range_with_len}
use Rattle.tiff_entries.specs.declared.entry.Entry.{Entry}
use Rattle.tiff_format.specs.Field.{count_of, values_place, entry_value, has_shape}
use Rattle.tiff_format.specs.Field.{entry_values, field_place, field_values, default_of}
use Rattle.tiff_format.specs.DirectoryFault.{is_misshapen}
use Rattle.tiff_format.specs.Bytes.{IsPartAt}
use Rattle.tiff_entries.specs.Entries.{IsEntry, IsKept, value_bytes, is_shaped, part_value}
use Rattle.tiff_format.proofs.BytesOfParts.{number_of_part}
use Rattle.tiff_entries.proofs.Entries.{shape_parts}

-- ---- what is kept of an entry

pub kept_none : (form : Form) (bytes : List ℕ) (o : Option ℕ) → IsKept form bytes None o → o ≡ None
kept_none form bytes None kept = refl
kept_none form bytes (Some place) kept = absurd kept

pub kept_some : (form : Form) (bytes : List ℕ) (entry : Entry) (o : Option ℕ)
    → IsKept form bytes (Some entry) o
    → (place : ℕ) × (o ≡ Some place) × (entry.form ≡ form) × IsEntry bytes place entry
kept_some form bytes entry None kept = absurd kept
kept_some form bytes entry (Some place) kept = (place, refl, kept.0, kept.1)

pub kept_there : (form : Form) (bytes : List ℕ) (kept : Option Entry) (o : Option ℕ)
    → IsKept form bytes kept o
    → is_some kept ≡ is_some o
kept_there form bytes None None is = refl
kept_there form bytes (Some entry) (Some place) is = refl
kept_there form bytes None (Some place) is = absurd is
kept_there form bytes (Some entry) None is = absurd is

pub shape_is : (form : Form) (bytes : List ℕ) (place : ℕ) (entry : Entry)
    → entry.form ≡ form → IsEntry bytes place entry
    → is_shaped (length bytes) entry ≡ has_shape form bytes place
unfolding has_shape
shape_is form bytes place entry same is = rw (is.kind, is.count, is.start, same) refl

-- ---- the values of an entry

pub entry_values_none : (form : Form) (bytes : List ℕ) (place : ℕ)
    → has_shape form bytes place ≡ false
    → entry_values form bytes place ≡ []
unfolding entry_values
entry_values_none form bytes place h = rw h refl

pub entry_values_some : (form : Form) (bytes : List ℕ) (place : ℕ)
    → has_shape form bytes place ≡ true
    → entry_values form bytes place
    ≡ map (entry_value form bytes place) (range_with_len 0 (count_of form bytes place))
unfolding entry_values
entry_values_some form bytes place h = rw h refl

pub entry_values_length : (form : Form) (bytes : List ℕ) (place : ℕ)
    → has_shape form bytes place ≡ true
    → length (entry_values form bytes place) ≡ count_of form bytes place
entry_values_length form bytes place h = rw (entry_values_some form bytes place h)
    (length-map-range_with_len (entry_value form bytes place) 0 (count_of form bytes place))

pub entry_values_at : (form : Form) (bytes : List ℕ) (place : ℕ)
    → has_shape form bytes place ≡ true → (k : ℕ)
    → k < count_of form bytes place
    → get_or (entry_values form bytes place) k 0 ≡ entry_value form bytes place k
entry_values_at form bytes place h k lt =
    rw (entry_values_some form bytes place h)
    (get_or-map-range_with_len (entry_value form bytes place) 0 (count_of form bytes place) k k 0 lt
    (omega arith))

-- value from + k of an entry, from the bytes of its values from one of them on
pub value_of_part : (bytes : List ℕ) (place : ℕ) (entry : Entry) → IsEntry bytes place entry
    → (from k : ℕ) (part : List ℕ)
    → IsPartAt bytes (entry.start + value_bytes entry * from) part
    → value_bytes entry * k + value_bytes entry ≤ length part
    → part_value entry part k ≡ entry_value entry.form bytes place (from + k)
unfolding entry_value
value_of_part bytes place entry is from k part here long =
    let size = value_bytes entry in
    let there = number_of_part entry.form.big size (size * k)
    (entry.start + size * from) bytes part here long in
    let at : entry.start + size * from + size * k
    ≡ values_place entry.form bytes place + size * (from + k) =
    omega (arith, is.start) in
    there ∙ rw (at, is.kind) refl

-- ---- the values of a field

pub field_values_none : (form : Form) (bytes : List ℕ) (at tag : ℕ)
    → field_place form bytes at tag ≡ None
    → field_values form bytes at tag ≡ default_of tag
unfolding field_values
field_values_none form bytes at tag h = rw h refl

pub field_values_some : (form : Form) (bytes : List ℕ) (at tag place : ℕ)
    → field_place form bytes at tag ≡ Some place
    → field_values form bytes at tag ≡ entry_values form bytes place
unfolding field_values
field_values_some form bytes at tag place h = rw h refl

-- a missing field has its default values
pub absent_values : (form : Form) (bytes : List ℕ) (at tag : ℕ)
    → IsKept form bytes None (field_place form bytes at tag)
    → field_values form bytes at tag ≡ default_of tag
absent_values form bytes at tag kept =
    field_values_none form bytes at tag (kept_none form bytes (field_place form bytes at tag) kept)

-- a misshapen one has none,
pub misshapen_values : (form : Form) (bytes : List ℕ) (at tag : ℕ) (entry : Entry)
    → IsKept form bytes (Some entry) (field_place form bytes at tag)
    → is_shaped (length bytes) entry ≡ false
    → field_values form bytes at tag ≡ []
misshapen_values form bytes at tag entry kept bad =
    let k = kept_some form bytes entry (field_place form bytes at tag) kept in
    let shape = sym (shape_is form bytes k.0 entry k.2 k.3) ∙ bad in
    field_values_some form bytes at tag k.0 k.1 ∙ entry_values_none form bytes k.0 shape

-- a field with an entry has the entry's values
pub record HasValues (form : Form) (bytes : List ℕ) (at tag : ℕ) (entry : Entry) : Type 0 where
  pub place : ℕ
  pub is : IsEntry bytes place entry
  pub same : field_values form bytes at tag ≡ entry_values form bytes place
  pub long : length (field_values form bytes at tag) ≡ entry.count
  pub some : 0 < entry.count
  pub each : (k : ℕ) → k < entry.count
      → get_or (field_values form bytes at tag) k 0 ≡ entry_value entry.form bytes place k

pub shaped_values : (form : Form) (bytes : List ℕ) (at tag : ℕ) (entry : Entry)
    → IsKept form bytes (Some entry) (field_place form bytes at tag)
    → is_shaped (length bytes) entry ≡ true → HasValues form bytes at tag entry
shaped_values form bytes at tag entry kept good =
    let k = kept_some form bytes entry (field_place form bytes at tag) kept in
    let shape = sym (shape_is form bytes k.0 entry k.2 k.3) ∙ good in
    let same = field_values_some form bytes at tag k.0 k.1 in
    let long = entry_values_length form bytes k.0 shape in
    let count : entry.count ≡ count_of form bytes k.0 =
    k.3.count ∙ ap (λ (f : Form). count_of f bytes k.0) k.2 in
    record {
      place = k.0;
      is = k.3;
      same = same;
      long = ap length same ∙ long ∙ sym count;
      some = (shape_parts (length bytes) entry good).some;
      each = λ i lt. ap (λ (xs : List ℕ). get_or xs i 0) same
          ∙ entry_values_at form bytes k.0 shape i (omega (arith, count))
          ∙ ap (λ (f : Form). entry_value f bytes k.0 i) (sym k.2);
    }

-- the first of the default's values, if any
pub default_first : (o : Option ℕ) → unwrap_or o 0 ≡ get_or (option_to_list o) 0 0
default_first None = refl
default_first (Some value) = refl

-- a field cannot be read if the entry that is kept of it cannot
pub misshapen_is : (form : Form) (bytes : List ℕ) (at tag : ℕ) (entry : Entry)
    → IsKept form bytes (Some entry) (field_place form bytes at tag)
    → not (is_shaped (length bytes) entry) ≡ is_misshapen form bytes at tag
misshapen_is form bytes at tag entry kept =
    let k = kept_some form bytes entry (field_place form bytes at tag) kept in
    rw (k.1, shape_is form bytes k.0 entry k.2 k.3) refl
