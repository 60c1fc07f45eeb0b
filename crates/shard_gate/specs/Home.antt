-- Which shards may be in a table, and what do the table's words say of them?
use Rattle.std.specs.Prelude.{◌≡◌, ℕ, [], length, map, Option, Some, None}
use Rattle.tex_world.specs.World.{Files}
use Rattle.tile_store.specs.CachedTile.{Entries}
use Rattle.tile_store.specs.Lawful.{Lawful}
use Rattle.tile_store.specs.Slots.{ShardState, AreInSlots}
use Rattle.shard_gate.specs.Words.{SlotWords, slots_of}
use Rattle.shard_gate.specs.declared.rule.Terms.{Terms}
pub use Rattle.shard_gate.specs.Everyone.{pins_at}

-- the key of a slot as a number; 0 if it has none, because no key is 0
abbrev pub key_number : Option ℕ → ℕ
key_number None = 0
key_number (Some key) = key

-- the pins of the entry in a slot with this key
abbrev pub pins_in : Entries → Option ℕ → ℕ
pins_in es None = 0
pins_in es (Some key) = pins_at key es

-- The words of a shard's slots: the key of each, and the pins of its entry.
abbrev pub words_of : ShardState → SlotWords
words_of s =
    record { keys = map key_number s.slots; pins = map (pins_in s.entries) s.slots }

-- The entries are lawful for the tag, each is in a slot of its own, and the other slots have no
-- key. The number of slots follows from the passes.
pub record IsStored (files : Files) (terms : Terms) (s : ShardState) : Type 0 where
  pub entries : Lawful files terms.tag s.entries
  pub in_slots : AreInSlots s
  pub count : length s.slots ≡ slots_of terms.passes

-- The shard is stored properly, and every emptied slot was reported.
pub record IsHome (files : Files) (terms : Terms) (s : ShardState) : Type 0 where
  pub stored : IsStored files terms s
  pub left : s.left ≡ []

-- for terms of this kind, a shard that was stored properly still is after each emptied slot is
-- reported
abbrev pub KeepsStored : Files → (Terms → Type 0) → ShardState → ShardState → Type 0
KeepsStored files OfKind old new =
    (terms : Terms) → OfKind terms → IsStored files terms old → IsStored files terms new
