-- Which visits does each call make, and which entries does it leave? The visits of a shard are
-- listed with the last one first.
use Rattle.std.specs.Prelude.{◌≡◌, ◌≢◌, ℕ, ◌<◌, ◌≤◌, length, List, ◌∷◌, Option, IsSome}
use Rattle.std.specs.Prelude.{Contains, slice_index}
use Rattle.tex_world.specs.World.{Files}
use Rattle.tiff_format.specs.declared.shard_count.ShardCount.{ShardCount}
use Rattle.tile_store.specs.Tile.{CachedTile}
use Rattle.tile_store.specs.CachedTile.{Entries, entry_at, tile_at, HasPin, pin_sum, loose_bytes}
use Rattle.tile_store.specs.Changes.{pinned_first, inserted, kept_tile, kept_within, unpinned_once}
use Rattle.tile_store.specs.Changes.{without_stale}
use Rattle.tile_store.specs.Lawful.{Lawful}
use Rattle.shard_gate.specs.Visit.{Visit, visit, visits_at}

-- The entries after a pin of the key was given back, and the unpinned ones beyond the share have
-- left.
abbrev pub released : ℕ → ℕ → Entries → Entries
released share key es = kept_within share (unpinned_once key es)

-- The count has the numbers of these entries.
pub record IsCountOf (es : Entries) (count : ShardCount) : Type 0 where
  pub tiles : count.tiles ≡ length es
  pub pins : count.pins ≡ pin_sum es
  pub loose : count.loose ≡ loose_bytes es

-- The count is of this share of the budget, and the unpinned tiles fit it.
pub record FitsShare (share : ℕ) (count : ShardCount) : Type 0 where
  pub same : count.share ≡ share
  pub within : count.loose ≤ count.share

-- Each entry is in a slot, which has its key, and no two slots have the same key.
pub record HaveSlots (keys : List ℕ) (es : Entries) : Type 0 where
  pub some : (key : ℕ) → IsSome (entry_at key es) → Contains keys key
  pub apart : (i j : ℕ) → 1 ≤ slice_index keys i → slice_index keys i ≡ slice_index keys j
      → i ≡ j

-- ---- what a call does, as visits added to those of one shard

-- The call looked for the tile of a key, and pinned it if it was there.
pub record Finds (key : ℕ) (tile : Option CachedTile) (old new : List Visit) : Type 0 where
  pub taken : Entries
  pub keys : List ℕ
  pub slots : HaveSlots keys taken
  pub found : tile ≡ tile_at key taken
  pub left : new ≡ visit taken keys (pinned_first key taken) keys ∷ old

-- The call inserted a tile with a pin.
pub record Inserts (count : ℕ) (tile result : CachedTile) (old new : List Visit) : Type 0 where
  pub taken : Entries
  pub keys : List ℕ
  pub slots : HaveSlots keys taken
  pub kept : result ≡ kept_tile tile taken
  pub keys_given : List ℕ
  pub slots_given : HaveSlots keys_given (inserted tile count taken)
  pub left : new ≡ visit taken keys (inserted tile count taken) keys_given ∷ old

-- The call left the entries as they were.
pub record GivesBack (old new : List Visit) : Type 0 where
  pub taken : Entries
  pub keys : List ℕ
  pub slots : HaveSlots keys taken
  pub left : new ≡ visit taken keys taken keys ∷ old

-- The call took a pin from the entry of a key, which had one.
pub record Releases (share key : ℕ) (old new : List Visit) : Type 0 where
  pub taken : Entries
  pub keys : List ℕ
  pub slots : HaveSlots keys taken
  pub pin : HasPin key taken
  pub keys_given : List ℕ
  pub slots_given : HaveSlots keys_given (released share key taken)
  pub left : new ≡ visit taken keys (released share key taken) keys_given ∷ old

-- The call removed the unpinned entries of a file below a generation.
pub record Purges (file below : ℕ) (old new : List Visit) : Type 0 where
  pub taken : Entries
  pub keys : List ℕ
  pub slots : HaveSlots keys taken
  pub keys_given : List ℕ
  pub slots_given : HaveSlots keys_given (without_stale file below taken)
  pub left : new ≡ visit taken keys (without_stale file below taken) keys_given ∷ old

-- The call left the entries as they were. They are lawful for the tag, and have these numbers.
pub record Counts (files : Files) (tag : ℕ) (count : ShardCount) (old new : List Visit)
    : Type 0 where
  pub taken : Entries
  pub numbers : IsCountOf taken count
  pub lawful : Lawful files tag taken
  pub keys : List ℕ
  pub slots : HaveSlots keys taken
  pub left : new ≡ visit taken keys taken keys ∷ old

-- ---- what a call does, as visits to all shards

-- The visits of this shard changed in this way, and those of no other shard.
pub record AtShard (shard : ℕ) (Changed : List Visit → List Visit → Type 0)
    (old new : List (List Visit)) : Type 0 where
  pub here : Changed (visits_at shard old) (visits_at shard new)
  pub others : (k : ℕ) → k ≢ shard → visits_at k new ≡ visits_at k old

-- The visits of each of the first shards changed in this way, and those of no other shard.
pub record AtFirst (count : ℕ) (Changed : List Visit → List Visit → Type 0)
    (old new : List (List Visit)) : Type 0 where
  pub below : (k : ℕ) → k < count → Changed (visits_at k old) (visits_at k new)
  pub others : (k : ℕ) → count ≤ k → visits_at k new ≡ visits_at k old

-- The visits of some first shards, but not of all shards, changed in this way, and no others.
abbrev pub AtSome : ℕ → (List Visit → List Visit → Type 0) → List (List Visit) → List (List Visit)
    → Type 0
AtSome count Changed old new = (n : ℕ) × (n < count) × AtFirst n Changed old new
