-- How does each call change the entries of a shard?
use Rattle.std.specs.Prelude.{◌≡◌, ℕ, ◌+◌, ◌-◌, ◌&&◌, ◌==◌, Bool, not, nat_eq, nat_le, nat_lt, []}
use Rattle.std.specs.Prelude.{◌∷◌, length, if◌then◌else◌}
use Rattle.std.specs.List.{filter, list_any}
use Rattle.std.specs.Option.{option_map_or}
use Rattle.std.specs.Map.{remove_entry, set_value}
use Rattle.tile_layout.specs.Key.{generation_of, file_of}
use Rattle.tile_store.specs.Tile.{CachedTile}
use Rattle.tile_store.specs.CachedTile.{EntryState, Entries, is_unpinned, is_pinned, pinned_entries}
use Rattle.tile_store.specs.CachedTile.{unpinned_bytes, entry_at}

-- the entry with one more pin
abbrev pub one_more : EntryState → EntryState
one_more entry = record entry { pins = entry.pins + 1 }

-- the entry with one pin less
abbrev pub one_less : EntryState → EntryState
one_less entry = record entry { pins = entry.pins - 1 }

-- the entry of a new tile, which has one pin
abbrev pub new_entry : CachedTile → EntryState
new_entry new_tile = record { tile = new_tile; pins = 1 }

-- The entry of the key has one more pin and is first.
abbrev pub pinned_first : ℕ → Entries → Entries
pinned_first key es =
    option_map_or (λ entry. (key, one_more entry) ∷ remove_entry (nat_eq key) es)
    (entry_at key es) es

-- The last unpinned entry has left: the one behind which all entries are pinned.
abbrev pub without_last_unpinned : Entries → Entries
without_last_unpinned [] = []
without_last_unpinned (e ∷ es) =
    if list_any is_unpinned es then e ∷ without_last_unpinned es
    else (if is_unpinned e then es else e ∷ es)

-- the entries with a free slot: if all were taken, the last unpinned entry has left
abbrev pub with_room : ℕ → Entries → Entries
with_room slots es = if nat_le slots (length es) then without_last_unpinned es else es

-- the entry of a tile is first, with one pin
abbrev pub with_first : CachedTile → Entries → Entries
with_first tile es = (tile.key, new_entry tile) ∷ es

-- the entry of the tile is first, and the old entries follow
abbrev pub IsFirst : CachedTile → Entries → Entries → Type 0
IsFirst tile old new = new ≡ with_first tile old

-- The tile is inserted with one pin. If an entry has its key, that one is pinned instead. Otherwise
-- the new entry is first, and if all slots were taken, an unpinned one has left.
abbrev pub inserted : CachedTile → ℕ → Entries → Entries
inserted tile slots es =
    option_map_or (λ _. pinned_first tile.key es) (entry_at tile.key es)
    (with_first tile (with_room slots es))

-- The tile is pinned and nothing has left: an entry with its key has one more pin, or the new entry
-- is first.
abbrev pub with_pin : CachedTile → Entries → Entries
with_pin tile es =
    option_map_or (λ _. pinned_first tile.key es) (entry_at tile.key es) (with_first tile es)

-- the tile that is kept under the key
abbrev pub kept_tile : CachedTile → Entries → CachedTile
kept_tile tile es = option_map_or (λ entry. entry.tile) (entry_at tile.key es) tile

-- The tile is the one that is kept under the key of `tile`, and has that key.
pub record IsKept (tile : CachedTile) (es : Entries) (kept : CachedTile) : Type 0 where
  pub value : kept ≡ kept_tile tile es
  pub keyed : kept.key ≡ tile.key

-- The entry of the key has one pin less, and keeps its place.
abbrev pub unpinned_once : ℕ → Entries → Entries
unpinned_once key es =
    option_map_or (λ entry. set_value (nat_eq key) es (one_less entry)) (entry_at key es) es

-- From the front, unpinned entries stay while their bytes fit. From the first one that does not
-- fit, all unpinned entries leave. Pinned entries stay, and do not count.
abbrev pub kept_within : ℕ → Entries → Entries
kept_within share [] = []
kept_within share (e ∷ es) =
    if nat_le (unpinned_bytes e.1) share then e ∷ kept_within (share - unpinned_bytes e.1) es
    else filter is_pinned es

-- whether the entry is unpinned, of this file, and of a generation below the bound
abbrev pub is_stale : ℕ → ℕ → ℕ × EntryState → Bool
is_stale file below e =
    is_unpinned e && (file_of e.0 == file) && nat_lt (generation_of e.0) below

-- the entries without the stale ones
abbrev pub without_stale : ℕ → ℕ → Entries → Entries
without_stale file below es = filter (λ e. not (is_stale file below e)) es

-- Only unpinned entries were removed: the pinned ones are the same, in the same order.
abbrev pub KeepsPinned : Entries → Entries → Type 0
KeepsPinned old new = pinned_entries new ≡ pinned_entries old
