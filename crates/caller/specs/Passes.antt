-- What do splitting, carrying and joining leave of callers?
use Rattle.std.specs.Prelude.{◌≡◌, Result, OnOk, OnErr}
use Rattle.tex_world.specs.declared.fault.NoMemory.{NoMemory}
use Rattle.shard_gate.specs.Since.{PurgesNone}
use Rattle.pinned_tiles.specs.Pinned.{LeavesPart}
use Rattle.tile_source.specs.Pass.{PassState}
use Rattle.image_cache.specs.Pass.{IsSecondPass, PassAfterJoin, JoinsReleased, SeesBoth}
use Rattle.tile_source.specs.Pass.{KeepsAllBut, nothing, the_view, its_tiles}
use Rattle.image_cache.specs.Caller.{CallerState}

-- The caller has the same cache, a second pass of it, and this tap.
pub record IsSplitOff {T : Type 0} (tap : T) (old second : CallerState T) : Type 0 where
  pub cache : second.cache ≡ old.cache
  pub pass : IsSecondPass old.pass second.pass
  pub has : second.tap ≡ tap

-- What one pass has seen was carried to another, unless memory ran out. Nothing else changed.
pub record CarriesOn (from_old from_new to_old to_new : PassState)
    (result : Result (Unit {0}) NoMemory) : Type 0 where
  pub seen : OnOk result (SeesBoth from_old to_old to_new)
  pub kept : KeepsAllBut the_view to_old to_new
  pub steps : to_new.view.steps ≡ to_old.view.steps
  pub same : KeepsAllBut nothing from_old from_new
  pub err : OnErr result (KeepsAllBut nothing to_old to_new)

-- Another caller has ended, and this is its tap.
pub record Joins {T : Type 0} (other old new : CallerState T) (tap : T) : Type 0 where
  pub after : PassAfterJoin other.pass old.pass new.pass
  pub released : JoinsReleased old.cache.gate other.pass old.pass new.pass
  pub back : tap ≡ other.tap

-- Another caller has not ended: it comes back with the tiles that it still has.
pub record JoinsNone {T : Type 0} (other back old new : CallerState T) : Type 0 where
  pub kept : KeepsAllBut nothing old.pass new.pass
  pub cache : back.cache ≡ other.cache
  pub tap : back.tap ≡ other.tap
  pub pass : KeepsAllBut its_tiles other.pass back.pass
  pub part : LeavesPart other.pass.pinned back.pass.pinned
  pub visits : PurgesNone old.cache.gate other.pass.pinned.seat back.pass.pinned.seat
