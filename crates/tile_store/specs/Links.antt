-- Which places are in an order, and how are they linked?
use Rattle.std.specs.Prelude.{◌≡◌, ℕ, zero, suc, ◌+◌, ◌-◌, ◌<◌, ◌≤◌, ◌^◌, Bool, true, nat_eq}
use Rattle.std.specs.Prelude.{List, [], ◌∷◌, ◌++◌, length, slice_index, slice_get}
use Rattle.std.specs.Prelude.{Option, if◌then◌else◌}
use Rattle.std.specs.List.{list_any, IsDistinct}

-- some of a fixed number of places, in an order
pub record Linked : Type 0 where
  pub order : List ℕ
  pub places : ℕ

-- these places, of this many
abbrev pub linked : List ℕ → ℕ → Linked
linked places_in_order count = record { order = places_in_order; places = count }

-- the place is in the order
abbrev pub is_in : ℕ → List ℕ → Bool
is_in place order = list_any (nat_eq place) order

-- the order without a place
abbrev pub without : ℕ → List ℕ → List ℕ
without place [] = []
without place (p ∷ ps) = if nat_eq place p then ps else p ∷ without place ps

-- the last element of a list, if there is one
abbrev pub last_of : {X : Type 0} → List X → Option X
last_of xs = slice_get xs (length xs - 1)

-- the numbers after `at`, following the links for this many steps
abbrev pub walk : List ℕ → ℕ → ℕ → List ℕ
walk next zero at = []
walk next (suc count) at = slice_index next at ∷ walk next count (slice_index next at)

-- from `at` on, each number links to the next, and is linked back to by it
abbrev pub Path : List ℕ → List ℕ → ℕ → List ℕ → Type 0
Path next prev at [] = Unit
Path next prev at (p ∷ ps) =
    (slice_index next at ≡ p) × (slice_index prev p ≡ at) × Path next prev p ps

-- The links form a ring that begins and ends at the root, whose index is the number of places.
pub record AreLinks (next prev : List ℕ) (root len : ℕ) : Type 0 where
  pub next_length : length next ≡ root + 1
  pub prev_length : length prev ≡ root + 1
  pub next_inside : (i : ℕ) → slice_index next i ≤ root
  pub prev_inside : (i : ℕ) → slice_index prev i ≤ root
  pub few : root < 2 ^ 32
  pub ring : Path next prev root (walk next len root ++ root ∷ [])
  pub below : (p : ℕ) → is_in p (walk next len root) ≡ true → p < root
  pub distinct : IsDistinct nat_eq (walk next len root)
