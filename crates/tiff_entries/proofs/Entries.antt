-- What is kept of an entry.
use Rattle.tiff_format.specs.declared.form.Form.{Form}
use Rattle.std.proofs.Common.{◌≡◌, ℕ, ◌+◌, ◌*◌, ◌<◌, ◌≤◌, true, List}
use Rattle.std.proofs.Common.{refl, ltb, leb, take, drop, get_or, arith}
use Rattle.std.specs.Prelude.{◌&&◌}
use Rattle.std.proofs.lemmas.Bool.{le-leb, lt-leb, leb-true, ltb-true, and_parts}
use Rattle.std.proofs.lemmas.List.{get_or-take, get_or-drop, length-take}
use Rattle.tiff_format.specs.Bytes.{IsPartAt}
use Rattle.tiff_format.specs.Form.{offset_bytes, offset_at, value_field_at}
use Rattle.tiff_format.specs.Field.{is_read, count_of, value_size, values_place}
use Rattle.tiff_entries.specs.declared.entry.Entry.{Entry}
use Rattle.tiff_entries.specs.Entries.{is_shaped, entry_size}

-- values that fit are in the entry itself
pub place_inner : (form : Form) (bytes : List ℕ) (place : ℕ)
    → count_of form bytes place * value_size form bytes place ≤ offset_bytes form
    → values_place form bytes place ≡ place + value_field_at form
unfolding values_place
place_inner form bytes place h =
    let fits = le-leb (count_of form bytes place * value_size form bytes place)
    (offset_bytes form) h in
    rw fits refl

-- others at the offset there
pub place_far : (form : Form) (bytes : List ℕ) (place : ℕ)
    → offset_bytes form < count_of form bytes place * value_size form bytes place
    → values_place form bytes place ≡ offset_at form bytes (place + value_field_at form)
unfolding values_place
place_far form bytes place h =
    let fits = lt-leb (count_of form bytes place * value_size form bytes place)
    (offset_bytes form) h in
    rw fits refl

-- bytes of values in an entry
pub inner_part : (bytes : List ℕ) (place : ℕ) (inner : List ℕ) (width at n : ℕ) → at + n ≤ width
    → ((k : ℕ) → k < width → get_or inner k 0 ≡ get_or bytes (place + k) 0)
    → IsPartAt bytes (place + at) (take n (drop at inner))
inner_part bytes place inner width at n within same k lt =
    let short : k < n = omega (arith, length-take {A = ℕ}) in
    let e : place + at + k ≡ place + (at + k) = omega arith in
    rw (get_or-take n (drop at inner) k 0 short, get_or-drop at inner k 0, e)
    (same (at + k) (omega arith))

-- ---- the shape

pub record IsShaped (file : ℕ) (entry : Entry) : Type 0 where
  pub kind : is_read entry.form entry.kind ≡ true
  pub some : 0 < entry.count
  pub end : entry.start + entry_size entry ≤ file

pub shape_parts : (file : ℕ) (entry : Entry) → is_shaped file entry ≡ true → IsShaped file entry
shape_parts file entry h =
    let rest = ltb 0 entry.count && leb (entry.start + entry_size entry) file in
    let a = and_parts (is_read entry.form entry.kind) rest h in
    let b = and_parts (ltb 0 entry.count) (leb (entry.start + entry_size entry) file) a.1 in
    record {
      kind = a.0;
      some = ltb-true 0 entry.count b.0;
      end = leb-true (entry.start + entry_size entry) file b.1;
    }
