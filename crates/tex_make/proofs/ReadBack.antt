-- The fields of a directory that was written are those that are read.
use Rattle.std.specs.Prelude.{◌==◌, nat_le, if◌then◌else◌, replicate}
use Rattle.std.proofs.Common.{◌≡◌, ℕ, ◌+◌, ◌-◌, ◌*◌, ◌^◌, ◌<◌, ◌≤◌, List, [], ◌∷◌, ◌++◌}
use Rattle.std.proofs.Common.{length, map, Bool, true, false, Option, Some, None}
use Rattle.std.proofs.Common.{refl, sym, ap, ◌∙◌, subst, arith}
use Rattle.std.specs.Prelude.{⊤}
use Rattle.std.specs.Int.{w16, w32, to_le_bytes}
use Rattle.std.specs.List.{range_with_len, flat_map}
use Rattle.std.proofs.lemmas.Bool.{lt-ltb, le-leb}
use Rattle.std.proofs.lemmas.List.{length-append, length-replicate}
use Rattle.std.proofs.lemmas.List.FromFn.{fill_by_all, length-map-range_with_len, get_or-map-range_with_len}
use Rattle.tiff_format.specs.declared.form.Form.{Form}
use Rattle.tiff_format.specs.Bytes.{number_at}
use Rattle.tiff_format.specs.Field.{first_entry, values_place, entry_value, entry_values, has_shape}
use Rattle.tiff_format.specs.Field.{value_size, type_size, is_read, count_of, type_of}
use Rattle.tex_make.specs.declared.field.Field.{Field}
use Rattle.tex_make.specs.declared.field.FieldKind.{FieldKind}
use Rattle.tex_make.specs.declared.field.FieldKind.TheVariants.{Short, Long}
use Rattle.tex_make.specs.Field.{type_number, number_size, number_bytes, FitsKind, number_in, field_size}
use Rattle.tex_make.specs.Field.{field_bytes, fits_entry, value_part, entry_of, outside_size}
use Rattle.tex_make.specs.Field.{outside_bytes, all_outside, entries_of, IsField}
use Rattle.tex_make.proofs.Parts.{Holds, holds_left, holds_right, holds_equal, length_joined}
use Rattle.tex_make.proofs.Parts.{two_bytes, four_bytes}

-- numbers have their lowest byte first, and the file is not BigTIFF
abbrev pub little : Form
little = record { big = false; wide = false }

-- ---- a field

-- the field's numbers fit their bytes, its tag is a tag, and it has values
pub record IsWritten (f : Field) : Type 0 where
  pub is : IsField f
  pub tag : f.tag < 2 ^ 16
  pub some : 1 ≤ f.count
  pub few : f.count < 2 ^ 32

-- the values of a field
abbrev pub values_of : Field → List ℕ
values_of f = map (number_in f) (range_with_len 0 f.count)

number_long : (kind : FieldKind) (n : ℕ) → length (number_bytes kind n) ≡ number_size kind
number_long Short n = refl
number_long Long n = refl

pub field_long : (f : Field) → length (field_bytes f) ≡ field_size f
field_long f = length_joined (λ i. number_bytes f.kind (number_in f i)) (number_size f.kind) f.count
    (λ i low. number_long f.kind (number_in f i))

part_by : (b : Bool) (part : List ℕ) (place : ℕ) (n : ℕ) → length part ≡ n → nat_le n 4 ≡ b
    → length (if b then part ++ replicate (4 - n) 0 else to_le_bytes w32 place) ≡ 4
part_by true part place n long fits =
    let low : n ≤ 4 = grind arith in
    omega (arith, long, low, length-append part (replicate (4 - n) 0), length-replicate {A = ℕ} (4 - n) 0)
part_by false part place n long fits = refl

part_long : (f : Field) (place : ℕ) → length (value_part f place) ≡ 4
part_long f place =
    part_by (fits_entry f) (field_bytes f) place (field_size f) (field_long f) refl

pub entry_long : (f : Field) (place : ℕ) → length (entry_of f place) ≡ 12
unfolding entry_of
entry_long f place = let long = part_long f place in omega (arith, long)

outside_by : (b : Bool) (part : List ℕ) (n : ℕ) → length part ≡ n
    → length (if b then [] else part) ≡ (if b then 0 else n)
outside_by true part n long = refl
outside_by false part n long = long

pub outside_long : (f : Field) → length (outside_bytes f) ≡ outside_size f
outside_long f = outside_by (fits_entry f) (field_bytes f) (field_size f) (field_long f)

-- ---- its entry

-- the entry at a place is that of the field
pub record IsEntry (bytes : List ℕ) (place : ℕ) (f : Field) : Type 0 where
  pub tag : number_at false 2 bytes place ≡ f.tag
  pub kind : type_of little bytes place ≡ type_number f.kind
  pub count : count_of little bytes place ≡ f.count
  pub values : Holds bytes (values_place little bytes place) (field_bytes f)

type_size_is : (kind : FieldKind) → type_size little (type_number kind) ≡ number_size kind
type_size_is Short = refl
type_size_is Long = refl

type_low : (kind : FieldKind) → type_number kind < 2 ^ 16
type_low Short = omega arith
type_low Long = omega arith

size_is : (bytes : List ℕ) (place : ℕ) (kind : FieldKind) → type_of little bytes place ≡ type_number kind
    → value_size little bytes place ≡ number_size kind
size_is bytes place kind is = ap (type_size little) is ∙ type_size_is kind

place_is : (bytes : List ℕ) (place : ℕ) (f : Field) → type_of little bytes place ≡ type_number f.kind
    → count_of little bytes place ≡ f.count
    → values_place little bytes place
    ≡ (if fits_entry f then place + 8 else number_at false 4 bytes (place + 8))
unfolding values_place
place_is bytes place f kind count =
    ap (λ (n : ℕ). if nat_le n 4 then place + 8 else number_at false 4 bytes (place + 8))
    (ap (λ (n : ℕ). n * value_size little bytes place) count
    ∙ ap (λ (n : ℕ). f.count * n) (size_is bytes place f.kind kind))

values_by : (b : Bool) (bytes part : List ℕ) (place v n : ℕ) → v < 2 ^ 32
    → Holds bytes (place + 8) (if b then part ++ replicate (4 - n) 0 else to_le_bytes w32 v)
    → Holds bytes v (if b then [] else part)
    → Holds bytes (if b then place + 8 else number_at false 4 bytes (place + 8)) part
values_by true bytes part place v n low inner outer =
    holds_left bytes part (replicate (4 - n) 0) (place + 8) inner
values_by false bytes part place v n low inner outer =
    subst (λ (at : ℕ). Holds bytes at part) (sym (four_bytes bytes (place + 8) v low inner)) outer

pub entry_is : (bytes : List ℕ) (place v : ℕ) (f : Field) → IsWritten f → v < 2 ^ 32
    → Holds bytes place (entry_of f v) → Holds bytes v (outside_bytes f) → IsEntry bytes place f
unfolding entry_of
entry_is bytes place v f written low entry outside =
    let tag_part = to_le_bytes w16 f.tag in
    let type_part = to_le_bytes w16 (type_number f.kind) in
    let count_part = to_le_bytes w32 f.count in
    let value = value_part f v in
    let behind_tag = holds_right bytes tag_part (type_part ++ (count_part ++ value)) place (place + 2)
    refl entry in
    let behind_type = holds_right bytes type_part (count_part ++ value) (place + 2) (place + 4)
    (omega arith) behind_tag in
    let behind_count = holds_right bytes count_part value (place + 4) (place + 8)
    (omega arith) behind_type in
    let kind = two_bytes bytes (place + 2) (type_number f.kind) (type_low f.kind)
    (holds_left bytes type_part (count_part ++ value) (place + 2) behind_tag) in
    let count = four_bytes bytes (place + 4) f.count written.few
    (holds_left bytes count_part value (place + 4) behind_type) in
    record {
      tag = two_bytes bytes place f.tag written.tag
          (holds_left bytes tag_part (type_part ++ (count_part ++ value)) place entry);
      kind = kind;
      count = count;
      values = subst (λ (at : ℕ). Holds bytes at (field_bytes f)) (sym (place_is bytes place f kind count))
          (values_by (fits_entry f) bytes (field_bytes f) place v (field_size f) low behind_count outside);
    }

-- ---- its values

value_at : (kind : FieldKind) (bytes : List ℕ) (at n : ℕ) → FitsKind kind n
    → Holds bytes at (number_bytes kind n) → number_at false (number_size kind) bytes at ≡ n
value_at Short bytes at n fits is = two_bytes bytes at n fits is
value_at Long bytes at n fits is = four_bytes bytes at n fits is

read_is : (kind : FieldKind) → is_read little (type_number kind) ≡ true
read_is Short = refl
read_is Long = refl

module _ (bytes : List ℕ) (place : ℕ) (f : Field) (written : IsWritten f) (entry : IsEntry bytes place f) where
  size : value_size little bytes place ≡ number_size f.kind
  size = size_is bytes place f.kind entry.kind

  value_is : (i : ℕ) → i < f.count → entry_value little bytes place i ≡ number_in f i
  unfolding entry_value
  value_is i low =
      let at = values_place little bytes place in
      ap (λ (n : ℕ). number_at false n bytes (at + n * i)) size
      ∙ ap (λ (n : ℕ). number_at false (number_size f.kind) bytes (at + n))
      (let e : number_size f.kind * i ≡ i * number_size f.kind = omega arith in e)
      ∙ value_at f.kind bytes (at + i * number_size f.kind) (number_in f i) (written.is.fits i low)
      (holds_equal bytes (λ i. number_bytes f.kind (number_in f i)) (number_size f.kind) f.count i at
      low (λ i low. number_long f.kind (number_in f i)) entry.values)

  pub shape_is : has_shape little bytes place ≡ true
  unfolding has_shape
  shape_is =
      let some = written.some in
      let ends = entry.values.ends in
      let long = field_long f in
      let at = values_place little bytes place in
      let within : at + f.count * number_size f.kind ≤ length bytes = omega (arith, ends, long) in
      rw (entry.kind, read_is f.kind, entry.count) (
      let here : type_size little (type_number f.kind) ≡ number_size f.kind = type_size_is f.kind in
      rw (lt-ltb 0 f.count some, here, le-leb (at + f.count * number_size f.kind) (length bytes) within) refl)

  pub values_are : entry_values little bytes place ≡ values_of f
  unfolding entry_values
  values_are =
      rw shape_is (
      ap (λ (n : ℕ). map (λ i. entry_value little bytes place i) (range_with_len 0 n)) entry.count
      ∙ fill_by_all (number_in f) (map (λ i. entry_value little bytes place i) (range_with_len 0 f.count))
      f.count 0 (length-map-range_with_len (λ i. entry_value little bytes place i) 0 f.count)
      (λ k low. get_or-map-range_with_len (λ i. entry_value little bytes place i) 0 f.count k k 0 low
      (omega arith) ∙ value_is k low))

-- ---- the fields of a directory

-- the first field of a tag
abbrev pub field_of : ℕ → List Field → Option Field
field_of tag [] = None
field_of tag (f ∷ fs) = if f.tag == tag then Some f else field_of tag fs

-- each of them is one
abbrev pub AreWritten : List Field → Type 0
AreWritten [] = ⊤
AreWritten (f ∷ fs) = IsWritten f × AreWritten fs

-- the place is that of the field's entry, or neither exists
abbrev pub Located : List ℕ → Option Field → Option ℕ → Type 0
Located bytes None None = ⊤
Located bytes None (Some place) = ⊥
Located bytes (Some f) None = ⊥
Located bytes (Some f) (Some place) = IsWritten f × IsEntry bytes place f

pub entries_long : (fs : List Field) (v : ℕ) → length (entries_of v fs) ≡ 12 * length fs
entries_long [] v = refl
entries_long (f ∷ fs) v =
    let here = entry_long f v in
    let rest = entries_long fs (v + outside_size f) in
    omega (arith, here, rest, length-append (entry_of f v) (entries_of (v + outside_size f) fs))

located_by : (b : Bool) (bytes : List ℕ) (f : Field) (place : ℕ) (rest : Option Field) (next : Option ℕ)
    → IsWritten f → IsEntry bytes place f → Located bytes rest next
    → Located bytes (if b then Some f else rest) (if b then Some place else next)
located_by true bytes f place rest next written is behind = (written, is)
located_by false bytes f place rest next written is behind = behind

pub located : (bytes : List ℕ) (tag : ℕ) (fs : List Field) (place v : ℕ) → AreWritten fs
    → v + all_outside fs < 2 ^ 32 → Holds bytes place (entries_of v fs)
    → Holds bytes v (flat_map outside_bytes fs)
    → Located bytes (field_of tag fs) (first_entry little tag bytes place (length fs))
unfolding first_entry
located bytes tag [] place v written low entries outside = tt
located bytes tag (f ∷ fs) place v written low entries outside =
    let next = v + outside_size f in
    let rest = flat_map outside_bytes fs in
    let is = entry_is bytes place v f written.0 (omega (arith, low))
    (holds_left bytes (entry_of f v) (entries_of next fs) place entries)
    (holds_left bytes (outside_bytes f) rest v outside) in
    let behind = located bytes tag fs (place + 12) next written.1 (omega (arith, low))
    (holds_right bytes (entry_of f v) (entries_of next fs) place (place + 12)
    (let long = entry_long f v in omega (arith, long)) entries)
    (holds_right bytes (outside_bytes f) rest v next
    (let long = outside_long f in omega (arith, long)) outside) in
    rw is.tag (located_by (f.tag == tag) bytes f place (field_of tag fs)
    (first_entry little tag bytes (place + 12) (length fs)) written.0 is behind)
