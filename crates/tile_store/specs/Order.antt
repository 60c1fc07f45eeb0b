-- What is true of the entries of a shard in their slots?
use Rattle.std.specs.Prelude.{◌≡◌, ℕ, zero, suc, ◌+◌, ◌<◌, ◌≤◌, true, nat_eq}
use Rattle.std.specs.Prelude.{List, [], ◌∷◌, ◌++◌, length}
use Rattle.std.specs.Prelude.{Option, Some, None, slice_index_or, IsSomeAnd}
use Rattle.std.specs.Option.{option_map_or}
use Rattle.std.specs.List.{IsDistinct}
use Rattle.tile_store.specs.CachedTile.{EntryState, Entries}
use Rattle.tile_store.specs.Links.{Linked, is_in}
use Rattle.tile_store.specs.Keys.{slot_of, AreApart}
use Rattle.tile_store.specs.Slots.{ShardState, SameSlots, LosesKey}

-- the entry in a slot, if it has one
abbrev pub entry_in : List (Option EntryState) → ℕ → Option EntryState
entry_in slots slot = slice_index_or slots slot None

-- an entry in front of others, under the key of its tile
abbrev pub in_front : Option EntryState → Entries → Entries
in_front entry es = option_map_or (λ e. (e.tile.key, e) ∷ es) entry es

-- the entries in these slots
abbrev pub entries_of : List (Option EntryState) → List ℕ → Entries
entries_of slots [] = []
entries_of slots (p ∷ ps) = in_front (entry_in slots p) (entries_of slots ps)

-- The slots in the order have entries, and the table finds each by its key and nothing else. The
-- other slots are free and empty, and there is memory to list each of them.
pub record IsOrder (slots : List (Option EntryState)) (free : List ℕ) (room : ℕ)
    (index : List (Option ℕ)) (links : Linked) : Type 0 where
  pub places : length slots ≡ links.places
  pub shared : length free + length links.order ≡ links.places
  pub noted : links.places ≤ room
  pub low : (p : ℕ) → is_in p free ≡ true → p < links.places
  pub empty : (p : ℕ) → is_in p free ≡ true → entry_in slots p ≡ None
  pub apart : IsDistinct nat_eq free
  pub indexed : (key p : ℕ) → slot_of key index ≡ Some p → is_in p links.order ≡ true
  pub keyed : (key p : ℕ) → slot_of key index ≡ Some p
      → IsSomeAnd (entry_in slots p) (λ e. e.tile.key ≡ key)
  pub held : (p : ℕ) → is_in p links.order ≡ true
      → IsSomeAnd (entry_in slots p) (λ e. slot_of e.tile.key index ≡ Some p)

-- the numbers below a bound, from 0 on
abbrev pub below : ℕ → List ℕ
below zero = []
below (suc n) = below n ++ n ∷ []

-- The slots are in order, and all free slots are listed. The first `told` of them were reported.
pub record IsOrdered (slots : List (Option EntryState)) (free : List ℕ) (room told : ℕ)
    (index : List (Option ℕ)) (links : Linked) : Type 0 where
  pub order : IsOrder slots free room index links
  pub count : length index ≡ links.places
  pub apart : AreApart index
  pub told_low : told ≤ length free

-- The entry of a key left its slot.
pub record Evicts (old new : ShardState) : Type 0 where
  pub key : ℕ
  pub lost : LosesKey key old new

-- Each entry has its slot, or one left it.
pub data MakesRoom (old new : ShardState) : Type 0 where
  stays : SameSlots old new → MakesRoom old new
  evicts : Evicts old new → MakesRoom old new
