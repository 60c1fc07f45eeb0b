-- Which entry leaves next?
use Rattle.std.specs.Prelude.{◌≡◌, ℕ, ◌-◌, nat_eq, false, Option, ◌∷◌, ◌++◌, length, take}
use Rattle.std.specs.Prelude.{if◌then◌else◌}
use Rattle.std.specs.List.{list_any}
use Rattle.std.specs.Option.{option_map_or}
use Rattle.std.specs.Map.{lookup_entry, remove_entry}
use Rattle.tile_store.specs.Tile.{tile_bytes}
use Rattle.tile_store.specs.CachedTile.{EntryState, Entries, is_unpinned}
use Rattle.tile_store.specs.Changes.{is_stale}
use Rattle.tile_store.specs.Links.{last_of}

-- the entry of this key is the last unpinned one, and has this number of bytes
pub record IsLastUnpinned (key bytes : ℕ) (es : Entries) : Type 0 where
  pub front : Entries
  pub entry : EntryState
  pub back : Entries
  pub parts : es ≡ front ++ (key, entry) ∷ back
  pub unpinned : entry.pins ≡ 0
  pub behind : list_any is_unpinned back ≡ false
  pub bytes_are : bytes ≡ tile_bytes entry.tile

-- the last entry
abbrev pub last_entry : Entries → Option (ℕ × EntryState)
last_entry es = last_of es

-- the entry of a key is moved to the front
abbrev pub promoted : ℕ → Entries → Entries
promoted key es =
    option_map_or (λ e. e ∷ remove_entry (nat_eq key) es) (lookup_entry (nat_eq key) es) es

-- all entries but the last
abbrev pub all_but_last : Entries → Entries
all_but_last es = take (length es - 1) es

-- the last entry has left if it is stale, and is first otherwise
abbrev pub turned : ℕ → ℕ → Entries → Entries
turned file below es =
    option_map_or
    (λ e. if is_stale file below e then all_but_last es else e ∷ all_but_last es)
    (last_entry es) es
