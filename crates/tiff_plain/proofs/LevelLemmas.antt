-- What a good file's levels have: they show no fault, and have the shape of a level.
use Rattle.std.proofs.Common.{◌≡◌, ℕ, zero, suc, ◌+◌, ◌<◌, Bool, true, false, ◌&&◌}
use Rattle.std.proofs.Common.{List, ◌⊎◌, inl, inr, add-zero, zero-add, Option}
use Rattle.std.proofs.Common.{None, Some, refl, sym, ◌∙◌, arith}
use Rattle.std.specs.Option.{option_and_then, option_map_or, unwrap_or}
use Rattle.std.specs.Option.{is_none}
use Rattle.std.proofs.lemmas.Bool.{cases_Bool, false≢true, lt-leb}
use Rattle.std.proofs.lemmas.Option.{none-some}
use Rattle.tiff_format.specs.declared.form.Form.{Form}
use Rattle.tiff_format.specs.Form.{form_of, header_bytes}
use Rattle.tiff_format.proofs.Sizes.{sizes}
use Rattle.tiff_format.specs.Directory.{lies_inside, next_directory, directory_place}
use Rattle.tiff_format.specs.Block.{shape_at}
use Rattle.tiff_format.specs.Facts.{IsLevelShape}
use Rattle.tiff_format.proofs.FirstFault.{none_of_two}
use Rattle.tiff_plain.proofs.ShapeLemmas.{shape_of_good}
use Rattle.tiff_format.specs.DirectoryFault.{directory_fault}
use Rattle.tiff_format.specs.Fault.{first_fault}
use Rattle.tiff_format.specs.Level.{is_level, is_next_level, leading, stored_levels, level_place}
use Rattle.tiff_format.specs.Level.{max_levels}

-- `is_none` is true only of `None`
none_of_is_none : {A : Type 0} (o : Option A) → is_none o ≡ true → o ≡ None
none_of_is_none None h = refl
none_of_is_none (Some x) h = cc

-- what passes a test is there
passing : {A : Type 0} (o : Option A) (test : A → Bool) → option_map_or test o false ≡ true
    → (x : A) × (o ≡ Some x) × (test x ≡ true)
passing None test h = absurd (false≢true h)
passing (Some x) test h = (x, refl, h)

-- one more, which passes or does not
leading_passes_step : (test : ℕ → Bool) (k n i : ℕ) → i < leading test k (suc n)
    → (test k ≡ true) ⊎ (test k ≡ false)
    → ((j : ℕ) → j < leading test (suc k) n → test (suc k + j) ≡ true)
    → test (k + i) ≡ true
leading_passes_step test k n i l (inr f) rest = absurd (omega (arith, rw f at l))
leading_passes_step test k n zero l (inl t) rest = rw add-zero t
leading_passes_step test k n (suc j) l (inl t) rest =
    let more = rw t at l in
    let below : j < leading test (suc k) n = omega (arith, more) in
    let same : suc k + j ≡ k + suc j = omega arith in
    rw (← same) (rest j below)

-- the leading numbers pass
leading_passes : (test : ℕ → Bool) (k n i : ℕ) → i < leading test k n → test (k + i) ≡ true
leading_passes test k zero i l = absurd (omega (arith, l))
leading_passes test k (suc n) i l =
    leading_passes_step test k n i l (cases_Bool (test k)) (leading_passes test (suc k) n)

-- directory 0 of a good file shows no fault
first_is_good : (bytes : List ℕ) → first_fault bytes ≡ None
    → directory_fault (form_of bytes) bytes (level_place bytes 0) ≡ None
unfolding first_fault
first_is_good bytes h =
    let rest = none_of_two _ _ h in
    (none_of_two _ _ rest.1).0

-- if a conjunction is true, both of its parts are
and_left : (a b : Bool) → (a && b) ≡ true → a ≡ true
and_left true b h = refl
and_left false b h = h

and_right : (a b : Bool) → (a && b) ≡ true → b ≡ true
and_right true b h = h
and_right false b h = absurd (false≢true h)

-- a directory that is the next level shows no fault
next_is_good : (form : Form) (bytes : List ℕ) (first at next : ℕ)
    → is_next_level form bytes first at next ≡ true
    → directory_fault form bytes next ≡ None
unfolding is_next_level
next_is_good form bytes first at next h =
    none_of_is_none (directory_fault form bytes next) (and_left _ _ (and_right _ _ h))

-- no directory is at place 0
next_of_zero : (form : Form) (bytes : List ℕ) → next_directory form bytes 0 ≡ None
unfolding next_directory lies_inside
next_of_zero form bytes =
    let low = lt-leb (header_bytes form) 0 (omega (arith, (sizes form).low_header)) in
    rw low refl

-- the place after a place that is there
place_step : (form : Form) (bytes : List ℕ) (place : Option ℕ) (next : ℕ)
    → next_directory form bytes (unwrap_or place 0) ≡ Some next
    → unwrap_or (option_and_then (next_directory form bytes) place) 0 ≡ next
place_step form bytes None next h = absurd (none-some next (sym (next_of_zero form bytes) ∙ h))
place_step form bytes (Some at) next h = rw h refl

-- after a directory's place comes that of the next
place_after : (bytes : List ℕ) (k next : ℕ)
    → next_directory (form_of bytes) bytes (level_place bytes k) ≡ Some next
    → level_place bytes (suc k) ≡ next
unfolding directory_place
place_after bytes k next h =
    place_step (form_of bytes) bytes (directory_place (form_of bytes) bytes k) next h

-- if directory k + 1 is a level, it is the one that follows directory k
next_of_level : (bytes : List ℕ) (k : ℕ) → is_level bytes (suc k) ≡ true
    → (next : ℕ) × (next_directory (form_of bytes) bytes (level_place bytes k) ≡ Some next)
    × (is_next_level (form_of bytes) bytes (level_place bytes 0) (level_place bytes k) next ≡ true)
unfolding is_level
next_of_level bytes k h =
    let form = form_of bytes in
    let at = level_place bytes k in
    passing (next_directory form bytes at) (is_next_level form bytes (level_place bytes 0) at)
    (and_right (is_level bytes k) _ h)

-- no stored level has a fault, if directory 0 has none
pub stored_is_good : (bytes : List ℕ) (l : ℕ)
    → directory_fault (form_of bytes) bytes (level_place bytes 0) ≡ None → l < stored_levels bytes
    → directory_fault (form_of bytes) bytes (level_place bytes l) ≡ None
unfolding stored_levels
stored_is_good bytes zero good l = good
stored_is_good bytes (suc k) good l =
    let level : is_level bytes (suc k) ≡ true =
    rw zero-add at (leading_passes (is_level bytes) 0 max_levels (suc k) l) in
    let next = next_of_level bytes k level in
    rw (place_after bytes k next.0 next.1)
    (next_is_good (form_of bytes) bytes (level_place bytes 0) (level_place bytes k) next.0 next.2)

-- a stored level has the shape of a level
pub stored_has_shape : (bytes : List ℕ) (l : ℕ)
    → directory_fault (form_of bytes) bytes (level_place bytes 0) ≡ None → l < stored_levels bytes
    → IsLevelShape (shape_at (form_of bytes) bytes (level_place bytes l))
stored_has_shape bytes l good lt =
    shape_of_good (form_of bytes) bytes (level_place bytes l) (stored_is_good bytes l good lt)

-- a stored level of a valid file has the shape of a level
pub level_has_shape : (bytes : List ℕ) (l : ℕ) → first_fault bytes ≡ None → l < stored_levels bytes
    → IsLevelShape (shape_at (form_of bytes) bytes (level_place bytes l))
level_has_shape bytes l good lt = stored_has_shape bytes l (first_is_good bytes good) lt
