-- What does it leave to check every known file, also if that ends at an I/O error? (docs/CACHE.md,
-- "Making a file invalid")
use Rattle.std.specs.Prelude.{◌≡◌, ◌⊎◌, ℕ, ◌+◌, ◌<◌, zero, suc, nat_lt, slice_index, ⊤}
use Rattle.tex_world.specs.World.{Files, IsReal}
use Rattle.shard_gate.specs.Gate.{GateState}
use Rattle.shard_gate.specs.Since.{PurgesNone}
use Rattle.tile_source.specs.declared.error.CacheError.{CacheError}
use Rattle.tile_source.specs.declared.error.CacheError.TheVariants as refused
use Rattle.tile_source.specs.Pass.{PassState}
use Rattle.tile_source.specs.Source.{PassTap, pass_tap}
use Rattle.image_cache.specs.Invalid.{KeepsButSight, AsksOnce, LooksAt, Leaves, RisesBy}
use Rattle.image_cache.specs.Invalid.{seen_count}

-- The board's number for the file was 0, so the file was skipped.
pub record PassesOver (file : ℕ) (old new : PassTap) : Type 0 where
  pub steps : slice_index new.pass.view.steps file ≡ slice_index old.pass.view.steps file + 1
  pub seen : slice_index new.pass.view.seen file ≡ 0
  pub tap : new.tap ≡ old.tap
  pub visits : new.pass.pinned.seat.visits ≡ old.pass.pinned.seat.visits

-- The file is known and was checked without force. The tap answered a generation that exists; if it
-- is newer than the board's number, the file's older unpinned tiles were purged. Otherwise no shard
-- was visited.
pub record RenewsKnown (files : Files) (gate : GateState) (file : ℕ) (old new : PassTap)
    : Type 0 where
  pub looked : ℕ
  pub answer : ℕ
  pub known : 0 < looked
  pub real : IsReal files file answer
  pub asks : AsksOnce file answer old.tap new.tap
  pub looks : LooksAt file looked answer old.pass.view new.pass.view
  pub leaves : Leaves gate file (nat_lt looked answer) answer old.pass.pinned.seat
      new.pass.pinned.seat

-- One file was skipped or checked; of the pass only what it has seen of this file, and its visits,
-- may have changed.
pub record RenewsFile (files : Files) (gate : GateState) (file : ℕ) (old new : PassTap)
    : Type 0 where
  pub same : KeepsButSight file old.pass new.pass
  pub renewed : PassesOver file old new ⊎ RenewsKnown files gate file old new

-- the first n files were skipped or checked, in the order of their numbers
unfoldable pub RenewsFirst : Files → GateState → ℕ → PassTap → PassTap → Type 0
RenewsFirst files gate zero old new = new ≡ old
RenewsFirst files gate (suc n) old new = (mid : PassTap) × RenewsFirst files gate n old mid
    × RenewsFile files gate n mid new

-- The pass's microcache and record were dropped, which purged no tile. Then each of the first n
-- files was skipped or checked.
pub record RenewsUpTo (files : Files) (gate : GateState) (n : ℕ) (old new : PassTap)
    : Type 0 where
  pub emptied : PassState
  pub released : PurgesNone gate old.pass.pinned.seat emptied.pinned.seat
  pub view : emptied.view ≡ old.pass.view
  pub each : RenewsFirst files gate n (pass_tap emptied old.tap) new

-- Every file was skipped or checked. The board was read for all of them, and the tap was asked for
-- the newest generation of each known one.
pub record MakesAllInvalid (files : Files) (gate : GateState) (n : ℕ) (old new : PassTap)
    : Type 0 where
  pub all : RenewsUpTo files gate n old new
  pub steps : (file : ℕ) → file < n
      → slice_index old.pass.view.steps file < slice_index new.pass.view.steps file
  pub asks : RisesBy (seen_count new.pass.view n) old.tap.asks new.tap.asks

-- An I/O error occurred at this file, which is known: the board was read, but the file was not
-- checked.
pub record FailsAt (file : ℕ) (old new : PassTap) : Type 0 where
  pub same : KeepsButSight file old.pass new.pass
  pub known : 0 < slice_index new.pass.view.seen file
  pub steps : slice_index new.pass.view.steps file ≡ slice_index old.pass.view.steps file + 1
  pub asks : new.tap.asks ≡ old.tap.asks
  pub visits : new.pass.pinned.seat.visits ≡ old.pass.pinned.seat.visits

-- An I/O error occurred at one of the first n files. The files before it are done, and the later
-- ones are untouched.
pub record EndsAtFault (files : Files) (gate : GateState) (n : ℕ) (old new : PassTap)
    : Type 0 where
  pub file : ℕ
  pub one_of : file < n
  pub done : PassTap
  pub before : RenewsUpTo files gate file old done
  pub failed : FailsAt file done new

-- what holds after an I/O error
abbrev pub AtReadFault : {B : Type 0} → Type 0 → CacheError B → Type 0
AtReadFault P refused.ReadFault = P
AtReadFault P _ = ⊤
