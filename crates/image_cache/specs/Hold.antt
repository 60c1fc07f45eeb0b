-- What does holding a tile leave of a pass?
use Rattle.std.specs.Prelude.{◌≡◌, ℕ, Option, ◌++◌, ◌∷◌, []}
use Rattle.std.specs.Prelude.{IfSome}
use Rattle.tex_world.specs.World.{Files}
use Rattle.tiff_format.specs.declared.cut.Cut.{Cut}
use Rattle.tile_store.specs.Tile.{CachedTile}
use Rattle.shard_gate.specs.Gate.{GateState, IsTileOf}
use Rattle.shard_gate.specs.Since.{PurgesNone}
use Rattle.file_table.specs.Record.{RecordState}
use Rattle.tile_source.specs.declared.error.CacheError.{CacheError}
use Rattle.tile_source.specs.Pass.{PassState}
use Rattle.tile_source.specs.Call.{LeavesNoHand, NoneFalls}
use Rattle.image_cache.specs.Call.{AfterRecordStep, KeepsRecent}
use Rattle.tile_source.specs.Source.{PassTap}
use Rattle.tile_source.specs.Cause.{FetchCause}

-- A tile with the key became the latest hold of the pass.
pub record TakesHold (files : Files) (cut : Cut) (key : ℕ) (old new : PassState) : Type 0 where
  pub tile : CachedTile
  pub held : new.pinned.holds ≡ old.pinned.holds ++ tile ∷ []
  pub is : IsTileOf files cut key tile

-- What a hold leaves: microcache and counts are unchanged. No tile is in hand that was not there
-- before, unless the waiter can give up.
pub record HoldsOn {B : Type 0} (files : Files) (gate : GateState) (known : RecordState)
    (old new : PassTap) (refused : Option (CacheError B)) : Type 0 where
  pub cause : IfSome refused (FetchCause files known new.pass.view old.tap new.tap)
  pub tap : NoneFalls old.tap new.tap
  pub step : AfterRecordStep known.file old.pass new.pass
  pub recent : KeepsRecent old.pass new.pass
  pub hand : LeavesNoHand B old.pass new.pass
  pub visits : PurgesNone gate old.pass.pinned.seat new.pass.pinned.seat
