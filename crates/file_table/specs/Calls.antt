-- What do the file table's calls answer, when may they fail, and what do they leave of the view and
-- of the tap?
use Rattle.std.specs.Prelude.{◌≡◌, ◌≢◌, ◌⊎◌, ℕ, ◌+◌, ◌<◌, ◌≤◌, slice_index, ⊤}
use Rattle.std.specs.Prelude.{Result, OnOk, IfErr}
use Rattle.tex_world.specs.Counts.{Rises, RisesByOne}
use Rattle.tex_world.specs.World.{Files, IsReal}
use Rattle.tex_world.specs.Tap.{Named, TapState}
use Rattle.gen_board.specs.View.{ViewState, IsLater, KeepsLooks}
use Rattle.tiff_format.specs.declared.cut.Cut.{Cut}
use Rattle.tap_reader.specs.ReadAhead.{AheadState, IsOf}
use Rattle.file_table.specs.Record.{RecordState, IsRecord}
use Rattle.tex_world.specs.declared.fault.OpenError.{OpenError}
use Rattle.tex_world.specs.declared.fault.OpenError.TheVariants as opening
use Rattle.file_table.specs.declared.error.FileError.{FileError}
use Rattle.file_table.specs.declared.error.FileError.TheVariants as refused

-- a view and a tap, as contracts see them
pub record Sighted : Type 0 where
  pub view : ViewState
  pub tap : TapState

abbrev pub sighted : ViewState → TapState → Sighted
sighted view tap = record { view = view; tap = tap }

-- ---- errors

-- an error of opening a file, as the file table reports it
abbrev pub of_open : {B : Type 0} → OpenError → FileError B
of_open opening.Failed = refused.ReadFault
of_open opening.NoMemory = refused.NoMemory

-- ---- what a call leaves

-- Only the board's number of this file was read or raised, and nothing that was seen has fallen.
pub record KeepsView (file : ℕ) (old new : ViewState) : Type 0 where
  pub board : new.board ≡ old.board
  pub later : IsLater old.seen new.seen
  pub seen_others : (f : ℕ) → f ≢ file → slice_index new.seen f ≡ slice_index old.seen f
  pub steps_others : (f : ℕ) → f ≢ file → slice_index new.steps f ≡ slice_index old.steps f

-- The board's number of the file was raised at most once, and not read.
pub record RaisesIfAtAll (file : ℕ) (old new : ViewState) : Type 0 where
  pub keeps : KeepsView file old new
  pub looks : KeepsLooks old new
  pub least : slice_index old.steps file ≤ slice_index new.steps file
  pub most : slice_index new.steps file ≤ slice_index old.steps file + 1

-- The board's number of the file was read once, and then raised at most once.
pub record LooksOnce (file : ℕ) (old new : ViewState) : Type 0 where
  pub keeps : KeepsView file old new
  pub looks : slice_index new.looks file ≡ slice_index old.looks file + 1
  pub least : slice_index old.steps file + 1 ≤ slice_index new.steps file
  pub most : slice_index new.steps file ≤ slice_index old.steps file + 2

-- No call of the tap failed. So none was tried again.
abbrev pub IsFaultless : TapState → TapState → Type 0
IsFaultless old new = new.faults ≡ old.faults

-- The tap was called only to read.
pub record ReadsOnly (old new : TapState) : Type 0 where
  pub faults : old.faults ≤ new.faults
  pub calls : old.calls ≤ new.calls
  pub opens : new.opens ≡ old.opens
  pub moves : old.moves ≤ new.moves
  pub lost : old.lost ≤ new.lost
  pub asks : new.asks ≡ old.asks
  pub newest : new.newest ≡ old.newest

-- The tap was called once to open a file, and otherwise only to read.
pub record OpensOnce (old new : TapState) : Type 0 where
  pub faults : old.faults ≤ new.faults
  pub calls : Rises old.calls new.calls
  pub opens : RisesByOne old.opens new.opens
  pub moves : old.moves ≤ new.moves
  pub lost : old.lost ≤ new.lost
  pub asks : new.asks ≡ old.asks
  pub newest : new.newest ≡ old.newest

-- The tap was not called, or a file was opened once.
abbrev pub OpensIfAtAll : TapState → TapState → Type 0
OpensIfAtAll old new = (new ≡ old) ⊎ OpensOnce old new

-- ---- record

-- The record is of this file and cut. Its generation is at least what the view had seen, and the
-- view has now seen it.
pub record GivesRecord (files : Files) (file : ℕ) (cut : Cut) (old new : ViewState)
    (state : RecordState) : Type 0 where
  pub of_file : state.file ≡ file
  pub under : state.cut ≡ cut
  pub honest : IsRecord files state
  pub new_enough : slice_index old.seen file ≤ state.generation
  pub seen : state.generation ≤ slice_index new.seen file

-- The record is at least as new as what the last read of the board's word found.
abbrev pub IsAsNew : ℕ → ViewState → RecordState → Type 0
IsAsNew file view state = slice_index view.looked file ≤ state.generation

-- If the view took exactly this number of steps on the file, the record is of the generation that
-- the view has then seen. Used for the steps without a raise: no record is older than the board.
abbrev pub IsAsSeen : ℕ → ℕ → ViewState → ViewState → RecordState → Type 0
IsAsSeen steps file old new state =
    slice_index new.steps file ≡ slice_index old.steps file + steps
    → slice_index new.seen file ≡ state.generation

-- The file was met in generation `from`, at least `least`, and then in the newer `to`.
pub record MeetsNewer (files : Files) (file least from to : ℕ) (old new : TapState) : Type 0 where
  pub from_real : IsReal files file from
  pub to_real : IsReal files file to
  pub new_enough : least ≤ from
  pub newer : from < to
  pub moves : Rises old.moves new.moves

-- why a file that was opened has no record
abbrev pub OpenedCause : {B : Type 0} → Files → ℕ → ℕ → TapState → TapState → FileError B
    → Type 0
OpenedCause files file least old new refused.ReadFault = Rises old.faults new.faults
OpenedCause files file least old new (refused.Again from to) =
    MeetsNewer files file least from to old new × Rises old.lost new.lost
OpenedCause files file least old new refused.NoMemory = ⊤
OpenedCause files file least old new (refused.Busy b) = ⊥

-- Why a file has no record. If a newer generation was met, a read met it and the view has now seen
-- it. If memory ran out, the file had been opened. If the waiter gave up, the tap was not called.
abbrev pub RecordCause : {B : Type 0} → Files → ℕ → Sighted → Sighted → FileError B → Type 0
RecordCause files file old new refused.ReadFault = Rises old.tap.faults new.tap.faults
RecordCause files file old new (refused.Again from to) =
    MeetsNewer files file (slice_index old.view.seen file) from to old.tap new.tap
    × Rises old.tap.lost new.tap.lost × (to ≤ slice_index new.view.seen file)
RecordCause files file old new refused.NoMemory = OpensOnce old.tap new.tap
RecordCause files file old new (refused.Busy b) = new.tap ≡ old.tap

-- ---- lending

-- the handle is of exactly this generation of this file
pub record IsOfExactly (file generation : ℕ) (handle : Named) : Type 0 where
  pub of_file : handle.file ≡ file
  pub of_generation : handle.generation ≡ generation

-- Handle and read-ahead are of exactly this generation of this file.
pub record IsLentFor (file generation : ℕ) (handle : Named) (ahead : AheadState) : Type 0 where
  pub opened : IsOfExactly file generation handle
  pub read : IsOf file generation ahead

-- Why a handle cannot be lent. If a newer generation was met, the view has now seen it; otherwise
-- the view is unchanged. If memory ran out, the file had been opened. If the waiter gave up, the
-- tap was not called.
abbrev pub LendCause : {B : Type 0} → Files → ℕ → ℕ → Sighted → Sighted → FileError B → Type 0
LendCause files file generation old new refused.ReadFault =
    Rises old.tap.faults new.tap.faults × (new.view ≡ old.view)
LendCause files file generation old new (refused.Again from to) =
    (from ≡ generation) × MeetsNewer files file generation from to old.tap new.tap
    × (to ≤ slice_index new.view.seen file)
LendCause files file generation old new refused.NoMemory =
    OpensOnce old.tap new.tap × (new.view ≡ old.view)
LendCause files file generation old new (refused.Busy b) =
    (new.tap ≡ old.tap) × (new.view ≡ old.view)

-- the error is that a newer generation was met
abbrev pub IsAgain : {B : Type 0} → FileError B → Type 0
IsAgain (refused.Again from to) = ⊤
IsAgain _ = ⊥

-- The tap met a newer generation only if that is the answer.
pub record MovesOnlyAgain {A B : Type 0} (old new : TapState) (result : Result A (FileError B))
    : Type 0 where
  pub ok : OnOk result (new.moves ≡ old.moves)
  pub err : IfErr result (λ e. (IsAgain e → ⊥) → new.moves ≡ old.moves)
