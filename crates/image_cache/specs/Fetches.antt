-- What does it leave to fetch a texel for a lookup?
use Rattle.std.specs.Prelude.{◌≡◌, ◌⊎◌, ◌≤◌, true, false, Result, IsTrue, IfErr, OnOk, OnErr}
use Rattle.tex_world.specs.World.{Files}
use Rattle.file_table.specs.Record.{RecordState}
use Rattle.file_table.specs.Calls.{sighted}
use Rattle.shard_gate.specs.Gate.{GateState}
use Rattle.shard_gate.specs.Since.{PurgesNone}
use Rattle.texel_filter.specs.Image.{Texel}
use Rattle.texel_values.specs.declared.texel_at.TexelAt.{TexelAt}
use Rattle.tile_source.specs.declared.error.CacheError.{CacheError}
use Rattle.tile_source.specs.Pass.{PassState}
use Rattle.tile_source.specs.Texel.{has_cell_at, IsStoredAt}
use Rattle.tile_source.specs.Call.{CountsNeed, AsksForCellAt, NeedsCellAt, AfterNeed, NoneFalls}
use Rattle.tile_source.specs.Call.{MovesCellAt, NoneUncached, MayBeUncached, LeavesNoHand, HasNoCall}
use Rattle.tile_source.specs.Call.{MissesCellAt, HoldsCellAt}
use Rattle.tile_source.specs.Cause.{FetchCause, MovesOnlyAgain, AnswersFromHold, WantsByOpening}
use Rattle.tile_source.specs.Source.{PassTap, IsNeededAt}
use Rattle.image_cache.specs.Call.{AnswersWarm}

-- the place of an image's texel, as the cache names it
abbrev pub at_of : Texel → TexelAt
at_of texel = record { level = texel.level; x = texel.x; y = texel.y }

-- The pass asked for the cell of a texel: one need is counted, and a hit if its microcache had the
-- cell. Unless the need was uncached, the microcache has the last of the keys asked for.
pub record AsksForCell (files : Files) (state : RecordState) (texel : Texel) (old new : PassState)
    : Type 0 where
  pub need : CountsNeed (has_cell_at state (at_of texel) old.pinned.recent) old new
  pub apart : MayBeUncached files old new
  pub asked : NoneUncached old new
      → AsksForCellAt state (at_of texel) old.pinned.recent new.pinned.recent
  pub needs : NoneUncached old new → NeedsCellAt files state (at_of texel) old new

-- The tap was not called, the pass has checked no generation, and the tile was moved to the front
-- of its microcache.
pub record IsWarmFetch (state : RecordState) (old : PassTap) (texel : Texel) (new : PassTap)
    : Type 0 where
  pub tap : new.tap ≡ old.tap
  pub view : new.pass.view ≡ old.pass.view
  pub moved : MovesCellAt state (at_of texel) old.pass.pinned.recent new.pass.pinned.recent

-- A texel of a record was fetched, from the microcache if it had the cell. Shards were visited only
-- to pin, unpin and count tiles.
pub record Fetches (files : Files) (gate : GateState) (state : RecordState) (old : PassTap)
    (texel : Texel) (new : PassTap) : Type 0 where
  pub asks : AsksForCell files state texel old.pass new.pass
  pub pass : AfterNeed state.file old.pass new.pass
  pub tap : NoneFalls old.tap new.tap
  pub visits : PurgesNone gate old.pass.pinned.seat new.pass.pinned.seat
  pub warm : has_cell_at state (at_of texel) old.pass.pinned.recent ≡ true
      → IsWarmFetch state old texel new

-- A texel was not fetched, for one of the causes of `fetch`. The microcache lacked its cell, and
-- one need is counted. If its level is stored, memory ran out only if a file was opened.
pub record Refuses {B : Type 0} (files : Files) (gate : GateState) (state : RecordState)
    (old : PassTap) (texel : Texel) (e : CacheError B) (new : PassTap) : Type 0 where
  pub cause : FetchCause files state new.pass.view old.tap new.tap e
  pub pass : AfterNeed state.file old.pass new.pass
  pub tap : NoneFalls old.tap new.tap
  pub visits : PurgesNone gate old.pass.pinned.seat new.pass.pinned.seat
  pub cold : has_cell_at state (at_of texel) old.pass.pinned.recent ≡ false
  pub need : CountsNeed (has_cell_at state (at_of texel) old.pass.pinned.recent) old.pass new.pass
  pub apart : old.pass.apart ≤ new.pass.apart
  pub memory : IsStoredAt state (at_of texel) → WantsByOpening old.tap new.tap e

-- What fetching a texel of a record leaves, whatever it answers.
pub record FetchesTexel {B : Type 0} (files : Files) (gate : GateState) (known : RecordState)
    (at : TexelAt) (old new : PassTap) (result : Result (Unit {0}) (CacheError B)) : Type 0 where
  pub cause : IfErr result (FetchCause files known new.pass.view old.tap new.tap)
  pub moves : MovesOnlyAgain old.tap new.tap result
  pub tap : NoneFalls old.tap new.tap
  pub same : AfterNeed known.file old.pass new.pass
  pub hand : LeavesNoHand B old.pass new.pass
  -- one need is counted, and a hit if the microcache had the cell
  pub need : CountsNeed (has_cell_at known at old.pass.pinned.recent) old.pass new.pass
  pub apart : OnOk result (MayBeUncached files old.pass new.pass)
  pub needed : OnOk result (NoneUncached old.pass new.pass
      → IsNeededAt files known at old.pass new.pass)
  pub later : old.pass.apart ≤ new.pass.apart
  -- Neither a hit nor an error in a generated level is counted as uncached.
  pub hit : IsTrue (has_cell_at known at old.pass.pinned.recent)
      → new.pass.apart ≡ old.pass.apart
  pub refused : (IsStoredAt known at → ⊥) → OnErr result (new.pass.apart ≡ old.pass.apart)
  -- It visits shards only to pin, unpin and count tiles; it purges nothing. If the world is
  -- modelled, it calls the tap only if a shard lacked the cell or the need was uncached.
  pub visits : PurgesNone gate old.pass.pinned.seat new.pass.pinned.seat
  pub missed : IsTrue files.tells → NoneUncached old.pass new.pass
      → HasNoCall old.tap new.tap ⊎ MissesCellAt gate known at old.pass new.pass
  -- If the pass holds the cell, the tap is not called, and only a waiter that gives up makes it
  -- fail.
  pub held : IsTrue files.tells → HoldsCellAt known at old.pass
      → AnswersFromHold old.tap new.tap result
  -- If the level is stored, it runs out of memory only if it opened a file.
  pub memory : IsStoredAt known at → IfErr result (WantsByOpening old.tap new.tap)
  -- If the microcache has the cell, it calls no tap and allocates nothing.
  pub warm : IsTrue (has_cell_at known at old.pass.pinned.recent) → AnswersWarm
      (sighted old.pass.view old.tap) (sighted new.pass.view new.tap) result
  pub moved : IsTrue (has_cell_at known at old.pass.pinned.recent)
      → MovesCellAt known at old.pass.pinned.recent new.pass.pinned.recent
