-- What are the entries of a shard? Tiles and their pins, the most recently used first.
use Rattle.std.specs.Prelude.{◌≡◌, ℕ, ◌<◌, ◌≤◌, ◌^◌, ◌==◌, Bool, not, nat_eq, List, length}
use Rattle.std.specs.Prelude.{Option, option_map, IsSomeAnd, if◌then◌else◌}
use Rattle.std.specs.Option.{option_map_or}
use Rattle.std.specs.List.{All, IsDistinct, sum_by, count_by, filter}
use Rattle.std.specs.Map.{keys_of, values_of, lookup}
use Rattle.tile_layout.specs.Cell.{max_cell_bytes}
use Rattle.tile_store.specs.Tile.{CachedTile, tile_bytes}

-- a tile and its number of pins
pub record EntryState : Type 0 where
  pub tile : CachedTile
  pub pins : ℕ

-- the entries of a shard, by key
abbrev pub Entries : Type 0
Entries = List (ℕ × EntryState)

-- the entry has no pin
abbrev pub is_unpinned : ℕ × EntryState → Bool
is_unpinned e = e.1.pins == 0

-- the entry has a pin
abbrev pub is_pinned : ℕ × EntryState → Bool
is_pinned e = not (is_unpinned e)

-- the pinned entries, in their order
abbrev pub pinned_entries : Entries → Entries
pinned_entries es = filter is_pinned es

-- the bytes of an entry without pins; 0 if it has one
abbrev pub unpinned_bytes : EntryState → ℕ
unpinned_bytes entry = if entry.pins == 0 then tile_bytes entry.tile else 0

-- the sum of all pins
abbrev pub pin_sum : Entries → ℕ
pin_sum es = sum_by (λ entry. entry.pins) (values_of es)

-- the bytes of the unpinned entries
abbrev pub loose_bytes : Entries → ℕ
loose_bytes es = sum_by unpinned_bytes (values_of es)

-- how many entries are pinned
abbrev pub pinned_count : Entries → ℕ
pinned_count es = count_by is_pinned es

-- the entry of a key, if there is one
abbrev pub entry_at : ℕ → Entries → Option EntryState
entry_at key es = lookup (nat_eq key) es

-- the tile of a key, if there is one
abbrev pub tile_at : ℕ → Entries → Option CachedTile
tile_at key es = option_map (λ entry. entry.tile) (entry_at key es)

-- the bytes of the entry of a key, if it has no pin; otherwise 0
abbrev pub unpinned_at : ℕ → Entries → ℕ
unpinned_at key es = option_map_or unpinned_bytes (entry_at key es) 0

-- there is an entry of the key, and it is pinned
abbrev pub HasPin : ℕ → Entries → Type 0
HasPin key es = IsSomeAnd (entry_at key es) (λ entry. 1 ≤ entry.pins)

-- the key is that of the entry's tile, which is small enough for a cell
pub record IsEntry (e : ℕ × EntryState) : Type 0 where
  pub key : e.1.tile.key ≡ e.0
  pub bytes : tile_bytes e.1.tile ≤ max_cell_bytes

-- The entries of a shard have distinct keys, each that of its tile. There are fewer than 2^32.
pub record AreEntries (es : Entries) : Type 0 where
  pub distinct : IsDistinct nat_eq (keys_of es)
  pub keyed : All IsEntry es
  pub few : length es < 2 ^ 32
