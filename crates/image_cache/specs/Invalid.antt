-- What does a freshness check on request leave? (docs/CACHE.md, "Making a file invalid")
use Rattle.std.specs.Prelude.{◌≡◌, ◌⊎◌, ℕ, ◌+◌, ◌<◌, ◌≤◌, nat_lt, ◌||◌, Bool, IsTrue, IsFalse}
use Rattle.std.specs.Prelude.{zero, suc, [], None, length, slice_index, if◌then◌else◌, ⊤}
use Rattle.tex_world.specs.Counts.{Rises, RisesByOne, last_count}
use Rattle.tex_world.specs.World.{Files, IsReal, last_generation}
use Rattle.tex_world.specs.Tap.{TapState}
use Rattle.gen_board.specs.View.{ViewState, KeepsLooks}
use Rattle.file_table.specs.Calls.{KeepsView}
use Rattle.shard_gate.specs.Gate.{GateState, PinSeatState}
use Rattle.shard_gate.specs.Given.{AtFirst, Purges}
use Rattle.shard_gate.specs.Since.{PurgesNone}
use Rattle.tile_source.specs.declared.error.CacheError.{CacheError}
use Rattle.tile_source.specs.declared.error.CacheError.TheVariants as refused
use Rattle.tile_source.specs.Pass.{PassState, SamePlace, SameTiles, SameCounts}

-- ---- what is asked for

-- a file to check, with or without force
pub record Asked : Type 0 where
  pub file : ℕ
  pub force : Bool

abbrev pub invalid : ℕ → Bool → Asked
invalid file force = record { file = file; force = force }

-- whether what is kept of the file is dropped: always with force, otherwise if the answer is newer
-- than the generation on the board
abbrev pub gives_up : Bool → ℕ → ℕ → Bool
gives_up force looked answer = force || nat_lt looked answer

-- tiles of generations below this one are purged: with force all, otherwise those older than the
-- answer
abbrev pub stale_below : Bool → ℕ → ℕ
stale_below force answer = if force then last_generation + 1 else answer

-- ---- what the calls leave of a pass

-- The pass has no record and, unless the waiter can give up, an empty microcache. Its holds and its
-- counts are unchanged.
pub record IsEmptied (Busy : Type 0) (old new : PassState) : Type 0 where
  pub place : SamePlace old new
  pub recent : (new.pinned.recent ≡ []) ⊎ Busy
  pub latest : new.latest ≡ None
  pub holds : new.pinned.holds ≡ old.pinned.holds
  pub counts : SameCounts old new

-- Only what the pass has seen of this file, and its seat's visits, may have changed.
pub record KeepsButSight (file : ℕ) (old new : PassState) : Type 0 where
  pub place : SamePlace old new
  pub view : KeepsView file old.view new.view
  pub tiles : SameTiles old new
  pub latest : new.latest ≡ old.latest
  pub counts : SameCounts old new

-- The board's number for the file, read before, was raised if and only if it was below the answer.
-- It was not read again.
pub record RaisesTo (file looked answer : ℕ) (old new : ViewState) : Type 0 where
  pub looks : KeepsLooks old new
  pub most : looked ≤ answer
  pub steps : slice_index new.steps file
      ≡ slice_index old.steps file + (if nat_lt looked answer then 1 else 0)
  pub seen : answer ≤ slice_index new.seen file

-- The board's number for the file was read once, with this result, and raised if and only if it was
-- below the answer.
pub record LooksAt (file looked answer : ℕ) (old new : ViewState) : Type 0 where
  pub once : slice_index new.looks file ≡ slice_index old.looks file + 1
  pub found : slice_index new.looked file ≡ looked
  pub least : slice_index old.seen file ≤ looked
  pub most : looked ≤ answer
  pub steps : slice_index new.steps file
      ≡ slice_index old.steps file + (if nat_lt looked answer then 2 else 1)
  pub seen : answer ≤ slice_index new.seen file

-- The tap was asked once, for the newest generation of this file; this was its answer.
pub record AsksOnce (file answer : ℕ) (old new : TapState) : Type 0 where
  pub asks : RisesByOne old.asks new.asks
  pub newest : new.newest ≡ (file, answer)
  pub calls : RisesByOne old.calls new.calls
  pub opens : new.opens ≡ old.opens
  pub moves : new.moves ≡ old.moves
  pub faults : old.faults ≤ new.faults

-- No count of the tap has fallen, and it opened no file.
pub record MayAsk (old new : TapState) : Type 0 where
  pub faults : old.faults ≤ new.faults
  pub calls : old.calls ≤ new.calls
  pub opens : new.opens ≡ old.opens
  pub moves : new.moves ≡ old.moves
  pub asks : old.asks ≤ new.asks

-- The file's unpinned tiles below a bound were purged from each shard. If nothing is stale, no
-- shard was visited.
pub record Leaves (gate : GateState) (file : ℕ) (stale : Bool) (below : ℕ) (old new : PinSeatState)
    : Type 0 where
  pub purged : IsTrue stale
      → AtFirst (length gate.id) (Purges file below) old.visits new.visits
  pub kept : IsFalse stale → new.visits ≡ old.visits

-- The file, whose number on the board was `looked`, was checked with this answer: a generation that
-- exists, from the tap.
pub record Renews (files : Files) (gate : GateState) (i : Asked) (looked : ℕ) (old new : PassState)
    (tap_old tap_new : TapState) (answer : ℕ) : Type 0 where
  pub real : IsReal files i.file answer
  pub asks : AsksOnce i.file answer tap_old tap_new
  pub raises : RaisesTo i.file looked answer old.view new.view
  pub leaves : Leaves gate i.file (gives_up i.force looked answer) (stale_below i.force answer)
      old.pinned.seat new.pinned.seat

-- The file was checked with this answer: a generation that exists, from the tap, and at least as
-- new as what the pass had seen. Emptying the microcache purged no tile; after that the stale tiles
-- were purged.
pub record MakesInvalid (files : Files) (gate : GateState) (i : Asked) (old new : PassState)
    (tap_old tap_new : TapState) (answer : ℕ) : Type 0 where
  pub real : IsReal files i.file answer
  pub asks : AsksOnce i.file answer tap_old tap_new
  pub looked : ℕ
  pub looks : LooksAt i.file looked answer old.view new.view
  pub emptied : PinSeatState
  pub released : PurgesNone gate old.pinned.seat emptied
  pub leaves : Leaves gate i.file (gives_up i.force looked answer) (stale_below i.force answer)
      emptied new.pinned.seat

-- The count has risen by n, or has reached its greatest value.
pub record RisesBy (n old new : ℕ) : Type 0 where
  pub later : old ≤ new
  pub by_n : new < last_count → new ≡ old + n

-- how many of the first n files the view has seen
unfoldable pub seen_count : ViewState → ℕ → ℕ
seen_count view zero = 0
seen_count view (suc n) =
    seen_count view n + (if nat_lt 0 (slice_index view.seen n) then 1 else 0)

-- The board's number for the file was read. If the file is known, the tap was asked once for its
-- newest generation; otherwise it was not called.
pub record AsksIfKnown (file : ℕ) (old new : ViewState) (tap_old tap_new : TapState)
    : Type 0 where
  pub steps : slice_index old.steps file < slice_index new.steps file
  pub asks : ((slice_index new.seen file ≡ 0) × (tap_new.asks ≡ tap_old.asks))
      ⊎ ((0 < slice_index new.seen file) × RisesByOne tap_old.asks tap_new.asks)

-- Why a check fails: an I/O error, or the waiter gave up. In the second case the later steps were
-- left out.
abbrev pub InvalidCause : {B : Type 0} → TapState → TapState → CacheError B → Type 0
InvalidCause old new refused.ReadFault = Rises old.faults new.faults
InvalidCause old new (refused.Busy b) = ⊤
InvalidCause old new _ = ⊥
