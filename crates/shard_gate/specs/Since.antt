-- Which visits has a seat made since a moment, and did one of them miss a key?
use Rattle.std.specs.Prelude.{◌≡◌, ℕ, length, List, ◌∷◌, ◌++◌, Some, None}
use Rattle.std.specs.List.{All}
use Rattle.tile_store.specs.Tile.{CachedTile}
use Rattle.tile_store.specs.CachedTile.{entry_at}
use Rattle.tile_store.specs.Changes.{pinned_first, inserted}
use Rattle.shard_gate.specs.Visit.{Visit, visits_at}
use Rattle.shard_gate.specs.Given.{released}
use Rattle.shard_gate.specs.Gate.{GateState, PinSeatState, shard_of, slots_of}

-- the key belongs to this shard of the gate
abbrev pub IsShardOf : GateState → ℕ → ℕ → Type 0
IsShardOf gate key shard = shard_of (length gate.id) key ≡ shard

-- A visit of a kind that does not purge: `count`, or any call that left the entries unchanged;
-- `pin`; `pin_new`; `unpin`.
pub data IsCallVisit (gate : GateState) (shard : ℕ) (v : Visit) : Type 0 where
  looks : v.given ≡ Some v.taken → IsCallVisit gate shard v
  pins : (key : ℕ) → IsShardOf gate key shard → v.given ≡ Some (pinned_first key v.taken)
      → IsCallVisit gate shard v
  inserts : (tile : CachedTile) → IsShardOf gate tile.key shard
      → v.given ≡ Some (inserted tile (slots_of gate.passes) v.taken)
      → IsCallVisit gate shard v
  releases : (key : ℕ) → IsShardOf gate key shard
      → v.given ≡ Some (released gate.share key v.taken) → IsCallVisit gate shard v

-- the visits of this shard are the earlier ones and some of that kind
pub record AddsCalls (gate : GateState) (shard : ℕ) (old new : List Visit) : Type 0 where
  pub added : List Visit
  pub calls : All (IsCallVisit gate shard) added
  pub left : new ≡ added ++ old

-- Every visit since is one of a `pin`, a `pin_new`, an `unpin` or a `count`, so none of them
-- purges.
pub record PurgesNone (gate : GateState) (old new : PinSeatState) : Type 0 where
  pub each : (shard : ℕ) → AddsCalls gate shard (visits_at shard old.visits)
      (visits_at shard new.visits)

-- A visit since to the key's shard found entries without the key.
pub record Misses (gate : GateState) (key : ℕ) (old new : PinSeatState) : Type 0 where
  pub missed : Visit
  pub later : List Visit
  pub earlier : List Visit
  pub lacks : entry_at key missed.taken ≡ None
  pub left : visits_at (shard_of (length gate.id) key) new.visits
      ≡ (later ++ missed ∷ earlier) ++ visits_at (shard_of (length gate.id) key) old.visits
