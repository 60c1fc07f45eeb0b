-- What faults are shown.
use Rattle.tiff_format.specs.declared.form.Form.{Form}
use Rattle.std.proofs.Common.{◌≡◌, ℕ, ◌<◌, ◌≤◌, Bool, true, false, not, List, length}
use Rattle.std.proofs.Common.{get_or, [], ◌∷◌, Option, Some, None, refl, sym, ap, ◌∙◌, arith}
use Rattle.std.specs.Prelude.{◌&&◌, ◌||◌, ◌==◌, nat_lt, if◌then◌else◌}
use Rattle.std.specs.Bool.{then_some}
use Rattle.std.proofs.lemmas.Bool.{le-ltb, lt-ltb, ne_eqb, false_from_ne_true}
use Rattle.tiff_format.specs.declared.fault.TiffFault.{TiffFault}
use Rattle.tiff_format.specs.declared.fault.TiffFault.TheVariants.{Short, BadMark, BadVersion}
use Rattle.tiff_format.specs.declared.fault.TiffFault.TheVariants.{DirOutside}
use Rattle.tiff_format.specs.Bytes.{has_mark, is_big, is_marked, version, tiff_version}
use Rattle.tiff_format.specs.Bytes.{wide_version, has_wide_offsets, number_at}
use Rattle.tiff_format.specs.Form.{form_of, header_bytes}
use Rattle.tiff_format.specs.Directory.{lies_inside}
use Rattle.tiff_format.specs.DirectoryFault.{first_of, outside_fault}
use Rattle.tiff_format.specs.Fault.{header_fault, least_bytes, has_version, says_wide}
use Rattle.tiff_format.specs.Bytes.{IsPartAt}
use Rattle.tiff_format.proofs.BytesOfParts.{number_of_part}
use Rattle.tiff_entries.proofs.Parts.{IsInside, inside_of_parts}

-- ---- the header

pub mark_of_part : (letter : ℕ) (bytes head : List ℕ) → IsPartAt bytes 0 head → 2 ≤ length head
    → has_mark letter head ≡ has_mark letter bytes
unfolding has_mark
mark_of_part letter bytes head part le =
    let first : get_or head 0 0 ≡ get_or bytes 0 0 = part 0 (omega arith) in
    let second : get_or head 1 0 ≡ get_or bytes 1 0 = part 1 (omega arith) in
    rw (first, second) refl

-- a file shorter than any header, and the version in the bytes that every header has
pub version_of_part : (big : Bool) (bytes head : List ℕ) → IsPartAt bytes 0 head
    → least_bytes ≤ length head → big ≡ is_big bytes → number_at big 2 head 2 ≡ version bytes
version_of_part big bytes head part le is =
    number_of_part big 2 2 0 bytes head part (omega arith)
    ∙ ap (λ (b : Bool). number_at b 2 bytes 2) is

-- the form of a file, from its mark and its version
pub form_is : (bytes : List ℕ) (big wide : Bool) → big ≡ is_big bytes
    → has_wide_offsets bytes ≡ wide
    → (let form : Form = record { big = big; wide = wide } in form) ≡ form_of bytes
form_is bytes big wide is far =
    let form : Bool → Bool → Form = λ b w. record { big = b; wide = w } in
    ap (λ (b : Bool). form b wide) is ∙ ap (λ (w : Bool). form (is_big bytes) w) (sym far)

pub short_is : (bytes : List ℕ) → length bytes < least_bytes → header_fault bytes ≡ Some Short
unfolding header_fault
short_is bytes lt = rw (lt-ltb (length bytes) least_bytes lt) refl

-- whether it has a mark, whether its offsets are wide, and whether its version is read
-- say which fault the header of another file shows
faults_by : ℕ → Bool → Bool → Bool → Option TiffFault
faults_by file marked wide version = first_of
    (then_some (marked && nat_lt file (if wide then 16 else 8)) Short
    ∷ then_some (not marked) BadMark ∷ then_some (not version) BadVersion ∷ [])

fault_by : (bytes : List ℕ) (m w v : Bool) → least_bytes ≤ length bytes → is_marked bytes ≡ m
    → has_wide_offsets bytes ≡ w → has_version bytes ≡ v
    → header_fault bytes ≡ faults_by (length bytes) m w v
unfolding header_fault faults_by
fault_by bytes m w v le marked wide version =
    ap (λ (b : Bool). first_of
    (then_some (b || (is_marked bytes && nat_lt (length bytes) (header_bytes (form_of bytes)))) Short
    ∷ then_some (not (is_marked bytes)) BadMark
    ∷ then_some (not (has_version bytes)) BadVersion ∷ []))
    (le-ltb (length bytes) least_bytes le)
    ∙ ap (λ (b : Bool). first_of
    (then_some (b && nat_lt (length bytes) (header_bytes (form_of bytes))) Short
    ∷ then_some (not b) BadMark ∷ then_some (not (has_version bytes)) BadVersion ∷ [])) marked
    ∙ ap (λ (b : Bool). first_of (then_some (m && nat_lt (length bytes) (if b then 16 else 8)) Short
    ∷ then_some (not m) BadMark ∷ then_some (not (has_version bytes)) BadVersion ∷ [])) wide
    ∙ ap (λ (b : Bool). first_of (then_some (m && nat_lt (length bytes) (if w then 16 else 8)) Short
    ∷ then_some (not m) BadMark ∷ then_some (not b) BadVersion ∷ [])) version

module _ (bytes : List ℕ) (le : least_bytes ≤ length bytes) where
  pub mark_is : is_marked bytes ≡ false → header_fault bytes ≡ Some BadMark
  unfolding faults_by
  mark_is none = fault_by bytes false (has_wide_offsets bytes) (has_version bytes) le none refl refl

  -- the header of a TIFF file, with version 42
  pub narrow_is_good : is_marked bytes ≡ true → version bytes ≡ tiff_version
      → header_fault bytes ≡ None
  unfolding faults_by
  narrow_is_good mark same =
      let wide : has_wide_offsets bytes ≡ false = rw same refl in
      let good : has_version bytes ≡ true = rw same refl in
      fault_by bytes true false true le mark wide good
      ∙ rw (le-ltb (length bytes) least_bytes le) refl

  -- a header with another version than 42 and 43
  pub version_is : is_marked bytes ≡ true → (version bytes ≡ tiff_version → ⊥)
      → (version bytes ≡ wide_version → ⊥) → header_fault bytes ≡ Some BadVersion
  unfolding faults_by
  version_is mark other wider =
      let wide : has_wide_offsets bytes ≡ false = ne_eqb (version bytes) wide_version wider in
      let bad : has_version bytes ≡ false =
      rw (ne_eqb (version bytes) tiff_version other, wide) refl in
      fault_by bytes true false false le mark wide bad
      ∙ rw (le-ltb (length bytes) least_bytes le) refl

  -- a header with version 43, in a file that is too short for BigTIFF
  pub wide_is_short : is_marked bytes ≡ true → version bytes ≡ wide_version → length bytes < 16
      → header_fault bytes ≡ Some Short
  unfolding faults_by
  wide_is_short mark same lt =
      let wide : has_wide_offsets bytes ≡ true = rw same refl in
      fault_by bytes true true (has_version bytes) le mark wide refl
      ∙ rw (lt-ltb (length bytes) 16 lt) refl

  -- the header of a BigTIFF file, with version 43, valid or not
  wide_by : (said : Bool) → is_marked bytes ≡ true → version bytes ≡ wide_version
      → 16 ≤ length bytes → says_wide bytes ≡ said
      → header_fault bytes ≡ then_some (not said) BadVersion
  unfolding faults_by
  wide_by said mark same long says =
      let wide : has_wide_offsets bytes ≡ true = rw same refl in
      let good : has_version bytes ≡ said =
      ap (λ (n : ℕ). (n == tiff_version) || ((n == wide_version) && says_wide bytes)) same ∙ says in
      fault_by bytes true true said le mark wide good
      ∙ rw (le-ltb (length bytes) 16 long) (last said)
    where
      last : (b : Bool) → first_of (then_some false Short ∷ then_some false BadMark
          ∷ then_some (not b) BadVersion ∷ []) ≡ then_some (not b) BadVersion
      last true = refl
      last false = refl

  pub unsaid_is : is_marked bytes ≡ true → version bytes ≡ wide_version → 16 ≤ length bytes
      → says_wide bytes ≡ false → header_fault bytes ≡ Some BadVersion
  unsaid_is mark same long says = wide_by false mark same long says

  pub wide_is_good : is_marked bytes ≡ true → version bytes ≡ wide_version → 16 ≤ length bytes
      → says_wide bytes ≡ true → header_fault bytes ≡ None
  wide_is_good mark same long says = wide_by true mark same long says

-- ---- the place of a directory

pub outside_is : (form : Form) (bytes : List ℕ) (at : ℕ) → (lies_inside form bytes at ≡ true → ⊥)
    → outside_fault form bytes at ≡ Some DirOutside
unfolding outside_fault
outside_is form bytes at not-inside =
    let no : lies_inside form bytes at ≡ false =
    false_from_ne_true (lies_inside form bytes at) not-inside in
    rw no refl

pub inside_is : (form : Form) (bytes : List ℕ) (at : ℕ) → IsInside form bytes at
    → outside_fault form bytes at ≡ None
unfolding outside_fault
inside_is form bytes at inside = rw (inside_of_parts form bytes at inside) refl

inside_by : (b : Bool) → then_some (not b) DirOutside ≡ None → b ≡ true
inside_by true h = refl
inside_by false h = absurd cc

pub no_outside : (form : Form) (bytes : List ℕ) (at : ℕ) → outside_fault form bytes at ≡ None
    → lies_inside form bytes at ≡ true
unfolding outside_fault
no_outside form bytes at none = inside_by (lies_inside form bytes at) none
