-- Which visits does a call add to those of its seat?
use Rattle.std.specs.Prelude.{◌≡◌, ℕ, List, length}
use Rattle.tile_store.specs.Tile.{CachedTile}
use Rattle.shard_gate.specs.Visit.{Visit}
use Rattle.shard_gate.specs.Given.{GivesBack, AtShard}
use Rattle.shard_gate.specs.Gate.{GateState, PinSeatState, PinState, shard_of}
use Rattle.shard_gate.specs.declared.error.PinError.{PinError}
use Rattle.shard_gate.specs.declared.error.PinError.TheVariants as failed
use Rattle.shard_gate.specs.declared.error.NotPinned.{NotPinned}
use Rattle.shard_gate.specs.declared.error.NotPinned.TheVariants as turned_down

-- the tile of a pin
abbrev pub tile_of : PinState → CachedTile
tile_of pin = pin.tile

-- The visits of the key's shard changed in this way, and those of no other shard.
abbrev pub VisitsAt : GateState → ℕ → (List Visit → List Visit → Type 0) → PinSeatState
    → PinSeatState → Type 0
VisitsAt gate key Changed old new =
    AtShard (shard_of (length gate.id) key) Changed old.visits new.visits

-- If memory ran out, the entries are unchanged. If the waiter gave up, there was no visit.
abbrev pub IfNotPinned : {B : Type 0} → PinError B → List Visit → List Visit → Type 0
IfNotPinned failed.NoMemory old new = GivesBack old new
IfNotPinned (failed.Busy busy) old new = new ≡ old

-- if a tile was not inserted: out of memory leaves the entries unchanged, and a waiter that gave up
-- made no visit
abbrev pub IfNotInserted : {W B : Type 0} → NotPinned W B → List Visit → List Visit → Type 0
IfNotInserted turned_down.NoMemory old new = GivesBack old new
IfNotInserted (turned_down.Busy tile busy) old new = new ≡ old
