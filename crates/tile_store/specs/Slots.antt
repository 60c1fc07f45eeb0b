-- Which slot of a shard has which entry, and how does each call change that?
use Rattle.std.specs.Prelude.{◌≡◌, ℕ, true, false, nat_eq, List, [], ◌∷◌, ◌++◌, length, replicate}
use Rattle.std.specs.Prelude.{Option, Some, None, IsSome}
use Rattle.std.specs.List.{IsDistinct}
use Rattle.std.specs.Option.{option_map_or}
use Rattle.tile_store.specs.CachedTile.{Entries, entry_at}
use Rattle.tile_store.specs.Links.{is_in}
use Rattle.tile_store.specs.Keys.{key_in, slot_of, keyed_at, without_key, AreApart}

-- A shard, as contracts see it.
pub record ShardState : Type 0 where
  -- its entries, the most recently used first
  pub entries : Entries
  -- the key in each of its slots
  pub slots : List (Option ℕ)
  -- the slots that were emptied and not yet reported
  pub left : List ℕ

-- a shard with this many slots, without entries
abbrev pub empty_shard : ℕ → ShardState
empty_shard count = record { entries = []; slots = replicate count None; left = [] }

-- No two slots have the same key, and the keys of the slots are those of the entries.
pub record AreInSlots (s : ShardState) : Type 0 where
  pub apart : AreApart s.slots
  pub some : (key slot : ℕ) → slot_of key s.slots ≡ Some slot → IsSome (entry_at key s.entries)
  pub none : (key : ℕ) → slot_of key s.slots ≡ None → entry_at key s.entries ≡ None

-- Each entry keeps its slot, and no slot is reported.
pub record SameSlots (old new : ShardState) : Type 0 where
  pub slots : new.slots ≡ old.slots
  pub left : new.left ≡ old.left

-- The slot that had the key is empty, and is still to be reported.
pub record LosesKey (key : ℕ) (old new : ShardState) : Type 0 where
  pub slots : new.slots ≡ without_key key old.slots
  pub left : new.left
      ≡ old.left ++ option_map_or (λ slot. slot ∷ []) (slot_of key old.slots) []

-- Some slots that had a key were emptied, each once, and are still to be reported. The others keep
-- their keys.
pub record EmptiesSlots (old new : ShardState) : Type 0 where
  pub emptied : List ℕ
  pub left : new.left ≡ old.left ++ emptied
  pub once : IsDistinct nat_eq emptied
  pub had : (slot : ℕ) → is_in slot emptied ≡ true → IsSome (key_in old.slots slot)
  pub none : (slot : ℕ) → is_in slot emptied ≡ true → key_in new.slots slot ≡ None
  pub kept : (slot : ℕ) → is_in slot emptied ≡ false → key_in new.slots slot ≡ key_in old.slots slot
  pub count : length new.slots ≡ length old.slots

-- One slot now has the key. The others keep their keys.
pub record FillsSlot (key : ℕ) (old new : ShardState) : Type 0 where
  pub slot : ℕ
  pub slots : new.slots ≡ keyed_at slot key old.slots
  pub left : new.left ≡ []

-- If an entry had the key, each entry keeps its slot. Otherwise one slot now has the key.
pub record SlotsAfterInsert (key : ℕ) (old new : ShardState) : Type 0 where
  pub kept : IsSome (entry_at key old.entries) → SameSlots old new
  pub filled : entry_at key old.entries ≡ None → FillsSlot key old new

-- The first emptied slot that was not yet reported was reported, if there was one.
pub record TellsSlot (told : Option ℕ) (old new : ShardState) : Type 0 where
  pub entries : new.entries ≡ old.entries
  pub slots : new.slots ≡ old.slots
  pub left : old.left ≡ option_map_or (λ slot. slot ∷ new.left) told []
  pub last : told ≡ None → new.left ≡ []
