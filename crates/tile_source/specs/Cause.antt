-- Why is a tile or a texel not found?
use Rattle.std.specs.Prelude.{◌≡◌, ℕ, ◌<◌, ◌≤◌, slice_index, ⊤}
use Rattle.std.specs.Prelude.{Result, OnOk, IfErr}
use Rattle.tex_world.specs.Counts.{Rises}
use Rattle.tex_world.specs.World.{Files, IsReal}
use Rattle.tex_world.specs.Tap.{TapState}
use Rattle.gen_board.specs.View.{ViewState}
use Rattle.file_table.specs.Record.{RecordState}
use Rattle.file_table.specs.declared.error.FileError.{FileError}
use Rattle.file_table.specs.declared.error.FileError.TheVariants as unread
use Rattle.file_table.specs.declared.picture.Unreadable.{Unreadable}
use Rattle.file_table.specs.declared.picture.Unreadable.TheVariants as cannot
use Rattle.tile_source.specs.declared.error.CacheError.{CacheError}
use Rattle.tile_source.specs.declared.error.CacheError.TheVariants as refused
use Rattle.shard_gate.specs.declared.error.PinError.{PinError}
use Rattle.shard_gate.specs.declared.error.PinError.TheVariants as unpinned

-- ---- the causes of all calls
--
-- A call fails because a newer generation was met, an I/O error occurred, memory ran out, its
-- waiter gave up, or with an error of its own.

-- Why a call fails. `Met` says which newer generation was met. `Wants` and `Waits` say what holds
-- if memory ran out and if the waiter gave up. `Refuses` says which errors are the call's own and
-- when they occur.
abbrev pub RefusedFor : {B : Type 0} → (ℕ → ℕ → Type 0) → TapState → TapState → Type 0 → Type 0
    → (CacheError B → Type 0) → CacheError B → Type 0
RefusedFor Met old new Wants Waits Refuses (refused.Again from to) = Met from to
RefusedFor Met old new Wants Waits Refuses refused.ReadFault = Rises old.faults new.faults
RefusedFor Met old new Wants Waits Refuses refused.NoMemory = Wants
RefusedFor Met old new Wants Waits Refuses (refused.Busy b) = Waits
RefusedFor Met old new Wants Waits Refuses e = Refuses e

-- for a call without errors of its own
abbrev pub Never : {B : Type 0} → CacheError B → Type 0
Never e = ⊥

-- ---- a texel

-- Generation `from` of a file was used and the newer `to` was met, which the pass has now seen.
pub record MetNewer (files : Files) (file generation from to : ℕ) (new : ViewState)
    (tap_old tap_new : TapState) : Type 0 where
  pub from_is : from ≡ generation
  pub from_real : IsReal files file from
  pub to_real : IsReal files file to
  pub newer : from < to
  pub seen : to ≤ slice_index new.seen file
  pub moves : Rises tap_old.moves tap_new.moves

-- Why a step of a call on a record fails: an I/O error, a newer generation, out of memory, a waiter
-- that gave up, or what `Refuses` says of the record.
abbrev pub StepCause : {B : Type 0} → Files → RecordState → ViewState → TapState → TapState
    → (RecordState → CacheError B → Type 0) → CacheError B → Type 0
StepCause files r new tap_old tap_new Refuses e =
    RefusedFor (λ from to. MetNewer files r.file r.generation from to new tap_old tap_new)
    tap_old tap_new ⊤ ⊤ (Refuses r) e

-- Why a texel of a record is not fetched: a step's causes, without errors of its own.
abbrev pub FetchCause : {B : Type 0} → Files → RecordState → ViewState → TapState → TapState
    → CacheError B → Type 0
FetchCause files r new tap_old tap_new e =
    StepCause files r new tap_old tap_new (λ _. Never) e

-- an error of the file table, as the cache reports it
abbrev pub of_file : {B : Type 0} → FileError B → CacheError B
of_file unread.ReadFault = refused.ReadFault
of_file (unread.Again from to) = refused.Again from to
of_file unread.NoMemory = refused.NoMemory
of_file (unread.Busy b) = refused.Busy b

-- an error of pinning a tile, as the cache reports it
abbrev pub of_pin : {B : Type 0} → PinError B → CacheError B
of_pin unpinned.NoMemory = refused.NoMemory
of_pin (unpinned.Busy b) = refused.Busy b

-- why the texels of a record cannot be read, as the cache reports it
abbrev pub of_unreadable : {B : Type 0} → Unreadable → CacheError B
of_unreadable (cannot.BadFile generation fault) = refused.BadFile generation fault
of_unreadable (cannot.TileTooLarge generation) = refused.TileTooLarge generation

-- the error is that a newer generation was met
abbrev pub IsAgain : {B : Type 0} → CacheError B → Type 0
IsAgain (refused.Again from to) = ⊤
IsAgain _ = ⊥

-- The tap met a newer generation only if that is the answer. After out of memory, an I/O error or a
-- waiter that gave up, it met none.
pub record MovesOnlyAgain {A B : Type 0} (old new : TapState) (result : Result A (CacheError B))
    : Type 0 where
  pub ok : OnOk result (new.moves ≡ old.moves)
  pub err : IfErr result (λ e. (IsAgain e → ⊥) → new.moves ≡ old.moves)

-- The error is out of memory, or that the waiter gave up.
abbrev pub IsWanting : {B : Type 0} → CacheError B → Type 0
IsWanting refused.NoMemory = ⊤
IsWanting (refused.Busy b) = ⊤
IsWanting _ = ⊥

-- The error is that the waiter gave up.
abbrev pub IsBusy : {B : Type 0} → CacheError B → Type 0
IsBusy (refused.Busy b) = ⊤
IsBusy _ = ⊥

-- Memory runs out only if a file was opened.
abbrev pub WantsByOpening : {B : Type 0} → TapState → TapState → CacheError B → Type 0
WantsByOpening old new refused.NoMemory = Rises old.opens new.opens
WantsByOpening old new _ = ⊤

-- The tap was not called, and only a waiter that gives up makes the call fail.
pub record AnswersFromHold {A B : Type 0} (old new : TapState) (result : Result A (CacheError B))
    : Type 0 where
  pub tap : new ≡ old
  pub busy : IfErr result IsBusy

-- The tap was not called, and only out of memory or a waiter that gives up makes the call fail.
pub record AnswersHeld {A B : Type 0} (old new : TapState) (result : Result A (CacheError B))
    : Type 0 where
  pub tap : new ≡ old
  pub wants : IfErr result IsWanting
