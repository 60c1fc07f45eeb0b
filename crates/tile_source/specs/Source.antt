-- With what state does a call on a record work, and what does each step leave of it?
use Rattle.std.specs.Prelude.{◌≡◌, ◌⊎◌, ℕ, None, Some, Option, Result, Ok, Err, List}
use Rattle.std.specs.Prelude.{◌≤◌, slice_index, IfSome, IfErr, OnOk, OnErr, IsTrue, true, false}
use Rattle.std.specs.Option.{ForSome}
use Rattle.tex_world.specs.declared.tap.Tap as a_tap
use Rattle.tex_world.specs.declared.tap.TapHandle as a_handle
use Rattle.waiter.specs.declared.waiting.Waiter as a_waiter
use Rattle.tex_world.specs.World.{Files}
use Rattle.tex_world.specs.Tap.{TapState}
use Rattle.gen_board.specs.View.{ViewState, KeepsLooks}
use Rattle.file_table.specs.Calls.{KeepsView}
use Rattle.texel_values.specs.Values.{AreValuesAt}
use Rattle.tile_source.specs.Texel.{IsStoredAt}
use Rattle.tile_store.specs.Tile.{CachedTile}
use Rattle.shard_gate.specs.Gate.{GateState}
use Rattle.shard_gate.specs.Since.{PurgesNone, Misses}
use Rattle.file_table.specs.Record.{RecordState}
use Rattle.pinned_tiles.specs.declared.cell.CellAt.{CellAt}
use Rattle.pinned_tiles.specs.Cell.{is_tile_of, HasFirst, StandsFirst}
use Rattle.pinned_tiles.specs.Pinned.{key_in, AsksFor}
use Rattle.micro.specs.Runs.{IsAsked}
use Rattle.tile_source.specs.declared.error.CacheError.{CacheError}
use Rattle.tile_source.specs.declared.source.TileSource.{TileSource}
use Rattle.tile_source.specs.Pass.{PassState, SameCounts, counted}
use Rattle.texel_values.specs.declared.texel_at.TexelAt.{TexelAt}
use Rattle.tile_source.specs.Call.{AfterNeed, CountsOn, CountsNeed, NoneUncached, MayBeUncached, HasNoCall, LeavesNoHand, NoneFalls}
use Rattle.tile_source.specs.Call.{AsksForCellAt, TurnsToCellAt, NeedsCellAt}
use Rattle.tile_source.specs.Cause.{FetchCause, IsAgain, WantsByOpening}

-- ---- answers

-- the error of a call, if it failed
abbrev pub refusal : {A E : Type 0} → Result A E → Option E
refusal (Ok a) = None
refusal (Err e) = Some e

-- The tap met a newer generation only if that is the error.
abbrev pub MeetsOnlyAgain : {B : Type 0} → Option (CacheError B) → TapState → TapState → Type 0
MeetsOnlyAgain None old new = new.moves ≡ old.moves
MeetsOnlyAgain (Some e) old new = (IsAgain e → ⊥) → new.moves ≡ old.moves

-- The tile of a cell is this one or, if none is given, the first of the microcache.
abbrev pub IsTileAt : CellAt → List CachedTile → Option CachedTile → Type 0
IsTileAt cell recent None = StandsFirst cell recent
IsTileAt cell recent (Some tile) = (tile.key ≡ cell.key) × IsTrue (is_tile_of cell tile)

-- The cell of a texel was needed, and is now in the microcache.
pub record IsNeededAt (files : Files) (known : RecordState) (at : TexelAt) (old new : PassState)
    : Type 0 where
  pub asked : AsksForCellAt known at old.pinned.recent new.pinned.recent
  pub turned : TurnsToCellAt known at old.pinned.recent new.pinned.recent
  pub needs : NeedsCellAt files known at old new

-- What was seen of other files is as before. Of this file, the looks are counted as before too, and
-- no step was taken back.
pub record KeepsOthers (file : ℕ) (old new : ViewState) : Type 0 where
  pub view : KeepsView file old new
  pub looks : KeepsLooks old new
  pub steps : slice_index old.steps file ≤ slice_index new.steps file

-- The values are those of the texel in the record's generation, if the world is modelled. If an
-- error is returned, none was written.
pub record WritesTexel {B : Type 0} (files : Files) (known : RecordState) (at : TexelAt)
    (out_old out_new : List ℕ) (result : Result (Unit {0}) (CacheError B)) : Type 0 where
  pub value : ForSome (files.held known.file known.generation)
      (λ bytes. OnOk result (AreValuesAt bytes at out_new))
  pub err : OnErr result (out_new ≡ out_old)

-- One need was counted, and no hit. Unless it was answered as uncached, the cell of the texel was
-- needed, and is now in the microcache.
pub record CountsMiss {B : Type 0} (files : Files) (known : RecordState) (at : TexelAt)
    (old new : PassState) (result : Result (Unit {0}) (CacheError B)) : Type 0 where
  pub need : CountsNeed false old new
  pub apart : OnOk result (MayBeUncached files old new)
  pub needed : OnOk result (NoneUncached old new → IsNeededAt files known at old new)

-- a pass and the tap that it reads through
pub record PassTap : Type 0 where
  pub pass : PassState
  pub tap : TapState

abbrev pub pass_tap : PassState → TapState → PassTap
pass_tap pass tap = record { pass = pass; tap = tap }

-- A texel of a stored level lacks memory only if a file was opened. An error in a generated level
-- is not counted as uncached.
pub record LacksMemory {B : Type 0} (known : RecordState) (at : TexelAt) (old new : PassTap)
    (result : Result (Unit {0}) (CacheError B)) : Type 0 where
  pub stored : IsStoredAt known at → IfErr result (WantsByOpening old.tap new.tap)
  pub generated : (IsStoredAt known at → ⊥) → OnErr result (new.pass.apart ≡ old.pass.apart)

-- A tile with the key was there, and is now first.
pub record FindsKey (key : ℕ) (old new : List CachedTile) : Type 0 where
  pub asked : IsAsked key_in old key true new
  pub latest : AsksFor key old new
  pub first : HasFirst key new

-- A tile with the key was placed first.
pub record PlacesKey (key : ℕ) (old new : List CachedTile) : Type 0 where
  pub asked : IsAsked key_in old key false new
  pub latest : AsksFor key old new
  pub first : HasFirst key new

-- A read of a part of a row changes neither the tiles nor the counts of a pass.
pub record IsReadUncached (old new : PassState) : Type 0 where
  pub pinned : new.pinned ≡ old.pinned
  pub counts : SameCounts old new

-- What an uncached need leaves of a pass: its tiles and its other counts are unchanged.
pub record IsTakenUncached (old new : PassState) : Type 0 where
  pub pinned : new.pinned ≡ old.pinned
  pub needs : new.needs ≡ old.needs
  pub hits : new.hits ≡ old.hits
  pub apart : (new.apart ≡ old.apart) ⊎ (new.apart ≡ counted old.apart)

-- ---- what a step leaves, also one that fails

-- What a step leaves. Each error has its cause. No count of the tap has fallen, and it met a newer
-- generation only if that is the error. The pass's holds and record are unchanged, and only this
-- file's newest generation may have risen. Shards were visited only to pin, unpin and count tiles.
pub record StepsAt {B : Type 0} (files : Files) (gate : GateState) (known : RecordState)
    (old new : PassTap) (refused : Option (CacheError B)) : Type 0 where
  pub cause : IfSome refused (FetchCause files known new.pass.view old.tap new.tap)
  pub moves : MeetsOnlyAgain refused old.tap new.tap
  pub tap : NoneFalls old.tap new.tap
  pub need : AfterNeed known.file old.pass new.pass
  pub visits : PurgesNone gate old.pass.pinned.seat new.pass.pinned.seat

-- What a read of needed cells leaves: what a step leaves, and no count has fallen. No tile is in
-- hand that was not there before, unless the waiter can give up.
pub record ReadsAt {B : Type 0} (files : Files) (gate : GateState) (known : RecordState)
    (old new : PassTap) (refused : Option (CacheError B)) : Type 0 where
  pub steps : StepsAt files gate known old new refused
  pub counts : CountsOn old.pass new.pass
  pub hand : LeavesNoHand B old.pass new.pass

-- What a read leaves, apart from the cause of an error.
pub record ReadsOn (files : Files) (gate : GateState) (known : RecordState) (old new : PassTap)
    (Busy : Type 0) : Type 0 where
  pub tap : NoneFalls old.tap new.tap
  pub need : AfterNeed known.file old.pass new.pass
  pub counts : CountsOn old.pass new.pass
  pub hand : LeavesNoHand Busy old.pass new.pass
  pub visits : PurgesNone gate old.pass.pinned.seat new.pass.pinned.seat

module _ {V T Busy W H : Type 0} {v : a_waiter.Ghosts V Busy} {t : a_tap.Ghosts T W H}
    {h : a_handle.Ghosts H W} where
  abbrev pub moment : TileSource V T Busy W H v t h → PassTap
  moment r = pass_tap r.pass.now (t.state r.tap.now)

  -- The call has the same cache, record, pass and tap.
  pub record IsSameCall (old new : TileSource V T Busy W H v t h) : Type 0 where
    pub store : new.store ≡ old.store
    pub picture : new.picture ≡ old.picture
    pub pass_name : new.pass.ghost_name ≡ old.pass.ghost_name
    pub tap_name : new.tap.ghost_name ≡ old.tap.ghost_name

  -- one step of the call was done
  pub record Steps (files : Files) (old new : TileSource V T Busy W H v t h)
      (refused : Option (CacheError Busy)) : Type 0 where
    pub call : IsSameCall old new
    pub left : StepsAt files old.store.now.gate old.picture.now (moment old) (moment new) refused

  -- What making a tile leaves: microcache and counts are unchanged. After an error no tile is in
  -- hand, unless the waiter gave up.
  pub record Makes (files : Files) (old new : TileSource V T Busy W H v t h)
      (refused : Option (CacheError Busy)) : Type 0 where
    pub steps : Steps files old new refused
    pub counts : SameCounts old.pass.now new.pass.now
    pub recent : new.pass.now.pinned.recent ≡ old.pass.now.pinned.recent
    pub empty : IfSome refused (λ _. (new.pass.now.pinned.hand ≡ None) ⊎ Busy)

  -- What bringing a cell into the microcache leaves: the counts are unchanged. No tile is in hand
  -- that was not there before, unless the waiter can give up.
  pub record Brings (files : Files) (old new : TileSource V T Busy W H v t h)
      (refused : Option (CacheError Busy)) : Type 0 where
    pub steps : Steps files old new refused
    pub counts : SameCounts old.pass.now new.pass.now
    pub hand : LeavesNoHand Busy old.pass.now new.pass.now

  -- what a read of needed cells leaves of the call
  pub record Reads (files : Files) (old new : TileSource V T Busy W H v t h)
      (refused : Option (CacheError Busy)) : Type 0 where
    pub call : IsSameCall old new
    pub left : ReadsAt files old.store.now.gate old.picture.now (moment old) (moment new) refused

  -- The tap was not called, or the shard of the key was visited and lacked it.
  abbrev pub IsCold : ℕ → TileSource V T Busy W H v t h → TileSource V T Busy W H v t h → Type 0
  IsCold key old new = HasNoCall (t.state old.tap.now) (t.state new.tap.now)
      ⊎ Misses old.store.now.gate key old.pass.now.pinned.seat new.pass.now.pinned.seat
