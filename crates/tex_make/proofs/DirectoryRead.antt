-- A directory that was written is read as it was written.
use Rattle.std.specs.Prelude.{◌==◌, not, if◌then◌else◌, is_some}
use Rattle.std.proofs.Common.{◌≡◌, ℕ, ◌+◌, ◌*◌, ◌^◌, ◌<◌, ◌≤◌, List, ◌++◌, length, true, false}
use Rattle.std.proofs.Common.{Option, Some, None, refl, ap, ◌∙◌, arith}
use Rattle.std.specs.Option.{option_map_or}
use Rattle.std.specs.Int.{w16, w32, to_le_bytes}
use Rattle.std.specs.List.{flat_map}
use Rattle.std.proofs.lemmas.Bool.{le-leb}
use Rattle.tiff_format.specs.Bytes.{number_at}
use Rattle.tiff_format.specs.Directory.{entry_count, entry_place, next_place, lies_inside, next_directory}
use Rattle.tiff_format.specs.Field.{field_place, has_field, field_values, entry_values}
use Rattle.tiff_format.specs.Field.{has_shape, default_of}
use Rattle.tiff_format.specs.DirectoryFault.{is_misshapen}
use Rattle.tex_make.specs.declared.field.Field.{Field}
use Rattle.tex_make.specs.Field.{directory_part, directory_bytes, entries_of, all_outside, outside_bytes}
use Rattle.tex_make.proofs.Parts.{Holds, holds_left, holds_right, two_bytes, four_bytes}
use Rattle.tex_make.proofs.ReadBack.{little, values_of, field_of, AreWritten, Located, located, entries_long}
use Rattle.tex_make.proofs.ReadBack.{shape_is, values_are}

-- ---- a field that was located, or none

has_by : (bytes : List ℕ) (o : Option Field) (p : Option ℕ) → Located bytes o p → is_some p ≡ is_some o
has_by bytes None None is = refl
has_by bytes None (Some place) is = absurd is
has_by bytes (Some f) None is = absurd is
has_by bytes (Some f) (Some place) is = refl

values_by : (bytes : List ℕ) (o : Option Field) (p : Option ℕ) (d : List ℕ) → Located bytes o p
    → option_map_or (entry_values little bytes) p d ≡ option_map_or values_of o d
values_by bytes None None d is = refl
values_by bytes None (Some place) d is = absurd is
values_by bytes (Some f) None d is = absurd is
values_by bytes (Some f) (Some place) d is = values_are bytes place f is.0 is.1

shape_by : (bytes : List ℕ) (o : Option Field) (p : Option ℕ) → Located bytes o p
    → option_map_or (λ place. not (has_shape little bytes place)) p false ≡ false
shape_by bytes None None is = refl
shape_by bytes None (Some place) is = absurd is
shape_by bytes (Some f) None is = absurd is
shape_by bytes (Some f) (Some place) is = ap not (shape_is bytes place f is.0 is.1)

-- ---- the directory at a place

module _ (bytes : List ℕ) (at next : ℕ) (fs : List Field) (written : AreWritten fs)
    (few : length fs < 2 ^ 16) (next_low : next < 2 ^ 32)
    (low : at + directory_part (length fs) + all_outside fs < 2 ^ 32) (behind : 8 ≤ at)
    (held : Holds bytes at (directory_bytes at next fs)) where
  abbrev n : ℕ
  n = length fs

  abbrev entries : List ℕ
  entries = entries_of (at + directory_part n) fs

  abbrev rest : List ℕ
  rest = to_le_bytes w32 next ++ flat_map outside_bytes fs

  count_held : Holds bytes at (to_le_bytes w16 n)
  unfolding directory_bytes
  count_held = holds_left bytes (to_le_bytes w16 n) (entries ++ rest) at held

  behind_count : Holds bytes (at + 2) (entries ++ rest)
  unfolding directory_bytes
  behind_count = holds_right bytes (to_le_bytes w16 n) (entries ++ rest) at (at + 2) refl held

  behind_entries : Holds bytes (at + 2 + 12 * n) rest
  behind_entries = holds_right bytes entries rest (at + 2) (at + 2 + 12 * n)
      (let long = entries_long fs (at + directory_part n) in omega (arith, long)) behind_count

  next_held : Holds bytes (at + 2 + 12 * n) (to_le_bytes w32 next)
  next_held = holds_left bytes (to_le_bytes w32 next) (flat_map outside_bytes fs) (at + 2 + 12 * n)
      behind_entries

  outside_held : Holds bytes (at + directory_part n) (flat_map outside_bytes fs)
  outside_held = holds_right bytes (to_le_bytes w32 next) (flat_map outside_bytes fs)
      (at + 2 + 12 * n) (at + directory_part n) (omega arith) behind_entries

  count_is : entry_count little bytes at ≡ n
  count_is = two_bytes bytes at n few count_held

  found : (tag : ℕ) → Located bytes (field_of tag fs) (field_place little bytes at tag)
  unfolding field_place
  found tag =
      let place : entry_place little at 0 ≡ at + 2 = omega arith in
      rw (count_is, place) (located bytes tag fs (at + 2) (at + directory_part n) written low
      (holds_left bytes entries rest (at + 2) behind_count) outside_held)

  pub has_is : (tag : ℕ) → has_field little bytes at tag ≡ is_some (field_of tag fs)
  has_is tag = has_by bytes (field_of tag fs) (field_place little bytes at tag) (found tag)

  pub field_values_are : (tag : ℕ)
      → field_values little bytes at tag ≡ option_map_or values_of (field_of tag fs) (default_of tag)
  unfolding field_values
  field_values_are tag = values_by bytes (field_of tag fs) (field_place little bytes at tag)
      (default_of tag) (found tag)

  pub well_shaped : (tag : ℕ) → is_misshapen little bytes at tag ≡ false
  well_shaped tag = shape_by bytes (field_of tag fs) (field_place little bytes at tag) (found tag)

  next_place_is : next_place little bytes at ≡ at + 2 + 12 * n
  next_place_is = ap (λ (k : ℕ). at + 2 + 12 * k) count_is

  pub inside : lies_inside little bytes at ≡ true
  unfolding lies_inside
  inside =
      let ends = next_held.ends in
      let within : at + 2 + 12 * n + 4 ≤ length bytes = omega (arith, ends) in
      rw (next_place_is, le-leb 8 at behind, le-leb (at + 2 + 12 * n + 4) (length bytes) within) refl

  pub next_is : next_directory little bytes at ≡ (if next == 0 then None else Some next)
  unfolding next_directory
  next_is =
      rw inside (
      ap (λ (k : ℕ). if k == 0 then None else Some k)
      (ap (number_at false 4 bytes) next_place_is
      ∙ four_bytes bytes (at + 2 + 12 * n) next next_low next_held))
