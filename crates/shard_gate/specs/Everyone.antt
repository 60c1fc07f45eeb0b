-- Whose are the pins of a shard's entries? They are those that all seats have together.
use Rattle.std.specs.Prelude.{◌≡◌, ℕ, ◌+◌, ◌<◌, cond, nat_eq, List, [], ◌∷◌, length}
use Rattle.std.specs.Prelude.{slice_index_or}
use Rattle.std.specs.List.{sum_by}
use Rattle.std.specs.Option.{option_map_or}
use Rattle.tile_store.specs.CachedTile.{Entries, entry_at}
use Rattle.shard_gate.specs.Visit.{Visit, visits_at}
use Rattle.shard_gate.specs.Gate.{PinSeatState, shard_of}

-- how often a key is in a list
abbrev pub times : ℕ → List ℕ → ℕ
times key [] = 0
times key (k ∷ keys) = cond (nat_eq k key) 1 0 + times key keys

-- the pins of the entry with a key; 0 if none exists
abbrev pub pins_at : ℕ → Entries → ℕ
pins_at key es = option_map_or (λ entry. entry.pins) (entry_at key es) 0

-- Each entry has as many pins as the seats, whose pinned keys these are, have on its key. No seat
-- has a pin on a key without an entry.
abbrev pub ArePinsOf : List (List ℕ) → Entries → Type 0
ArePinsOf seats es = (key : ℕ) → pins_at key es ≡ sum_by (times key) seats

-- The pins of the entries are those of all seats, of which one has these pins.
pub record ArePinsOfAll (own_pins : List ℕ) (es : Entries) : Type 0 where
  -- the pinned keys of each seat
  pub seats : List (List ℕ)
  -- the index of the seat that has the given pins
  pub mine : ℕ
  pub inside : mine < length seats
  pub own : slice_index_or seats mine [] ≡ own_pins
  pub all : ArePinsOf seats es

-- the entries that the last visit found
abbrev pub taken_last : List Visit → Entries
taken_last [] = []
taken_last (last ∷ before) = last.taken

-- The last visit to a shard found entries whose pins are those of all callers' seats, of which one
-- is this seat.
pub record FindsPinsOfAll (shard : ℕ) (old new : PinSeatState) : Type 0 where
  -- the keys that each seat has pinned at the shard
  pub seats : List (List ℕ)
  -- the index of this seat
  pub mine : ℕ
  pub inside : mine < length seats
  pub own : (key : ℕ) → shard_of (length old.gate) key ≡ shard
      → times key (slice_index_or seats mine []) ≡ times key old.pins
  pub all : ArePinsOf seats (taken_last (visits_at shard new.visits))
