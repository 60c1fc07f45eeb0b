-- Which items may a microcache have, and how does each call change them?
use Rattle.std.specs.Prelude.{ℕ, ◌≤◌, ◌==◌, Bool, not, nat_eq, List, ◌∷◌, ◌++◌, length, take, map}
use Rattle.std.specs.Prelude.{Option, IsNone}
use Rattle.std.specs.List.{filter, Contains, IsDistinct}
use Rattle.std.specs.Option.{option_to_list}

module _ {P : Type 0} where
  -- whether the item has the key
  abbrev pub has_key : (P → ℕ) → ℕ → P → Bool
  has_key key_of key p = key_of p == key

  -- one of the items has the key
  abbrev pub HasKey : (P → ℕ) → ℕ → List P → Type 0
  HasKey key_of key items = Contains (map key_of items) key

  -- There are at most two items, and no two have the same key.
  pub record AreItems (key_of : P → ℕ) (items : List P) : Type 0 where
    pub few : length items ≤ 2
    pub distinct : IsDistinct nat_eq (map key_of items)

  -- the items with the one of the key, if any, moved to the front
  abbrev pub key_first : (P → ℕ) → ℕ → List P → List P
  key_first key_of key items =
      filter (has_key key_of key) items ++ filter (λ p. not (has_key key_of key p)) items

  -- the new item, followed by the one that was first
  abbrev pub placed : P → List P → List P
  placed p items = take 2 (p ∷ items)

  -- the items in the two places
  abbrev pub items_in : Option P → Option P → List P
  items_in first second = option_to_list first ++ option_to_list second

  -- The second place is empty if the first is, and the items have different keys.
  pub record IsMicro (key_of : P → ℕ) (first second : Option P) : Type 0 where
    pub in_order : IsNone first → IsNone second
    pub items : AreItems key_of (items_in first second)
