-- Looking through entries, and through the values of an entry.
use Rattle.std.proofs.Common.{◌≡◌, ℕ, zero, suc, ◌+◌, ◌<◌, true, false, eqb, List, length}
use Rattle.std.proofs.Common.{get_or, None, Some, refl, arith}
use Rattle.std.proofs.Common.{inl, inr}
use Rattle.std.proofs.lemmas.Bool.{cases_Bool}
use Rattle.std.proofs.lemmas.List.FromFn.{length-map-range_with_len, get_or-map-range_with_len}
use Rattle.tiff_format.specs.declared.form.Form.{Form}
use Rattle.tiff_format.specs.Bytes.{number_at}
use Rattle.tiff_format.specs.Form.{entry_bytes, tag_bytes}
use Rattle.tiff_format.specs.Field.{first_entry, count_of, has_shape, entry_value, entry_values}

-- if the first entry has the tag, it is found
pub first_entry_found : (form : Form) (tag : ℕ) (bytes : List ℕ) (place n : ℕ) → 0 < n
    → number_at form.big tag_bytes bytes place ≡ tag
    → first_entry form tag bytes place n ≡ Some place
unfolding first_entry
first_entry_found form tag bytes place zero h e = absurd (omega (arith, h))
first_entry_found form tag bytes place (suc n) h e = grind (arith, e)

-- if the first entry has another tag, the others are searched
pub first_entry_more : (form : Form) (tag : ℕ) (bytes : List ℕ) (place next n m : ℕ) → n ≡ m + 1
    → next ≡ place + entry_bytes form
    → eqb (number_at form.big tag_bytes bytes place) tag ≡ false
    → first_entry form tag bytes place n ≡ first_entry form tag bytes next m
unfolding first_entry
first_entry_more form tag bytes place next zero m h e f = absurd (omega (arith, h))
first_entry_more form tag bytes place next (suc n) m h e f =
    let same : n ≡ m = omega (arith, h) in
    rw f (rw (same, e) refl)

-- without entries, none is found
pub first_entry_none : (form : Form) (tag : ℕ) (bytes : List ℕ) (place n : ℕ) → n ≡ 0
    → first_entry form tag bytes place n ≡ None
unfolding first_entry
first_entry_none form tag bytes place zero h = refl
first_entry_none form tag bytes place (suc n) h = absurd (omega (arith, h))

-- an entry of a good shape has as many values as it counts
pub length-entry_values : (form : Form) (bytes : List ℕ) (place : ℕ)
    → has_shape form bytes place ≡ true
    → length (entry_values form bytes place) ≡ count_of form bytes place
unfolding entry_values
length-entry_values form bytes place h =
    rw h (length-map-range_with_len (entry_value form bytes place) 0 (count_of form bytes place))

-- the values of an entry that can be read
get_or-shaped_values : (form : Form) (bytes : List ℕ) (place i : ℕ)
    → has_shape form bytes place ≡ true → i < count_of form bytes place
    → get_or (entry_values form bytes place) i 0 ≡ entry_value form bytes place i
unfolding entry_values
get_or-shaped_values form bytes place i h l =
    rw h (get_or-map-range_with_len (entry_value form bytes place) 0
    (count_of form bytes place) i i 0 l (omega arith))

-- an entry of a bad shape has none
pub length-shapeless_values : (form : Form) (bytes : List ℕ) (place : ℕ)
    → has_shape form bytes place ≡ false
    → length (entry_values form bytes place) ≡ 0
unfolding entry_values
length-shapeless_values form bytes place h = rw h refl

-- an entry's values, each at its place
pub get_or-entry_values : (form : Form) (bytes : List ℕ) (place i : ℕ)
    → i < length (entry_values form bytes place)
    → get_or (entry_values form bytes place) i 0 ≡ entry_value form bytes place i
get_or-entry_values form bytes place i l =
    elim (cases_Bool (has_shape form bytes place)) [
      | inl t ↦ get_or-shaped_values form bytes place i t
          (omega (arith, l, length-entry_values form bytes place t))
      | inr f ↦ absurd (omega (arith, l, length-shapeless_values form bytes place f))
    ]

pub ruleset entry_lists = (length-entry_values, get_or-entry_values)

-- the number of them in either case
pub ruleset entry_lengths = (length-entry_values, length-shapeless_values)
