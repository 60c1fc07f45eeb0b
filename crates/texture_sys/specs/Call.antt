-- What does a lookup through the cache answer, when may it fail, and what state does it leave?
use Rattle.std.specs.Prelude.{◌≡◌, ◌⊎◌, ℕ, ◌<◌, ◌≤◌, ⊤, List, length, slice_index}
use Rattle.std.specs.Prelude.{None, Some, Result, Ok, Err, IsOkAnd, IsSomeAnd, IfErr}
use Rattle.std.specs.Option.{ForSome}
use Rattle.tex_world.specs.World.{Files, IsReal}
use Rattle.gen_board.specs.View.{ViewState}
use Rattle.tiff_format.specs.Fault.{first_fault}
use Rattle.tiff_format.specs.declared.cut.Cut.{Cut}
use Rattle.tile_layout.specs.Kept.{kept_of}
use Rattle.tile_layout.specs.Cell.{CellsFit}
use Rattle.file_table.specs.Record.{RecordState}
use Rattle.tex_world.specs.Tap.{TapState}
use Rattle.file_table.specs.Calls.{Sighted, sighted, MeetsNewer, GivesRecord, KeepsView}
use Rattle.texture_sys.specs.declared.lookup.Lookups.{Lookups}
use Rattle.texture_sys.specs.declared.stopped.Stopped.{Stopped}
use Rattle.texture_sys.specs.Asked.{AreValuesOn, AreFirstOn}
use Rattle.tile_source.specs.declared.error.CacheError.{CacheError}
use Rattle.tile_source.specs.declared.error.CacheError.TheVariants as refused
use Rattle.tile_source.specs.Pass.{PassState, SamePlace}
use Rattle.tile_source.specs.Call.{CountsOn, NoneUncached}
use Rattle.image_cache.specs.Call.{Serves, IsUnopened, KeepsOne}
use Rattle.tile_source.specs.Cause.{RefusedFor, MetNewer}
use Rattle.image_cache.specs.Cause.{LookupRefuses, MetAtOpening}
use Rattle.tile_source.specs.Cause.{WantsByOpening}
use Rattle.texture_sys.specs.Look.{picture_of}
use Rattle.texture_sys.specs.Needs.{visits_on, HasCells, AsksForCells, NeedsCells, VisitsStored}

-- ---- answers

-- The generation exists, is at least what the pass had seen of the file, and the pass has now seen
-- it.
pub record IsOfGeneration (files : Files) (file : ℕ) (old new : ViewState) (generation : ℕ)
    : Type 0 where
  pub real : IsReal files file generation
  pub new_enough : slice_index old.seen file ≤ generation
  pub seen : generation ≤ slice_index new.seen file

-- The bytes are a valid file whose cells are small enough, and the values are those of the lookups
-- on them.
pub record IsLookupOn (cut : Cut) (bytes : List ℕ) (r : Lookups) (out : List ℕ) : Type 0 where
  pub good : first_fault bytes ≡ None
  pub fits : CellsFit (kept_of bytes) cut
  pub values : AreValuesOn (picture_of cut bytes) r out

-- The values are those of the lookups on one generation's bytes, if the world is modelled.
pub record Answers (files : Files) (file : ℕ) (cut : Cut) (r : Lookups) (old new : ViewState)
    (out : List ℕ) (generation : ℕ) : Type 0 where
  pub of : IsOfGeneration files file old new generation
  pub value : ForSome (files.held file generation) (λ bytes. IsLookupOn cut bytes r out)

-- The error names the generation that was looked up, or 0 if the file was not opened. The lookups
-- before the one that failed are answered on that generation.
pub record AnswersFirst {E : Type 0} (files : Files) (file : ℕ) (cut : Cut) (r : Lookups)
    (old new : ViewState) (out : List ℕ) (s : Stopped E) : Type 0 where
  pub unopened : s.generation ≡ 0 → s.done ≡ 0
  pub of : 1 ≤ s.generation → IsOfGeneration files file old new s.generation
  pub first : 1 ≤ s.generation → ForSome (files.held file s.generation) (λ bytes.
      AreFirstOn (picture_of cut bytes) r s.done out)

-- ---- causes

-- The file cannot be looked up: its bytes have a fault, or one of its cells would be too large.
abbrev pub IsNotLookedUp : {B : Type 0} → Files → ℕ → Cut → ViewState → ViewState → CacheError B
    → Type 0
IsNotLookedUp files file cut old new (refused.BadFile generation fault) =
    IsOfGeneration files file old new generation
    × ForSome (files.held file generation) (λ bytes. first_fault bytes ≡ Some fault)
IsNotLookedUp files file cut old new (refused.TileTooLarge generation) =
    IsOfGeneration files file old new generation
    × ForSome (files.held file generation) (λ bytes.
    (first_fault bytes ≡ None) × ¬ CellsFit (kept_of bytes) cut)
IsNotLookedUp files file cut old new e = ⊥

-- Why a lookup fails.
abbrev pub TextureCause : {B : Type 0} → Files → ℕ → Cut → Sighted → Sighted → CacheError B
    → Type 0
TextureCause files file cut old new e = RefusedFor
    (λ from to. MeetsNewer files file (slice_index old.view.seen file) from to old.tap new.tap
    × (to ≤ slice_index new.view.seen file))
    old.tap new.tap ⊤ ⊤ (IsNotLookedUp files file cut old.view new.view) e

-- If the record that the pass then keeps stores every level that the lookup visits, then the call
-- runs out of memory only if it opened a file.
abbrev pub MemoryCause : {A B : Type 0} → Lookups → PassState → TapState → TapState
    → Result A (CacheError B) → Type 0
MemoryCause r new tap_old tap_new result =
    IsSomeAnd new.latest (VisitsStored r) → IfErr result (WantsByOpening tap_old tap_new)

-- ---- what a lookup leaves

-- The pass has checked the newest generation of this file only. What it has seen and its counts
-- never fall, the microcache has at most two tiles, and its holds did not change.
pub record AfterLookup (file : ℕ) (old new : PassState) : Type 0 where
  pub place : SamePlace old new
  pub view : KeepsView file old.view new.view
  pub looks : slice_index old.view.steps file < slice_index new.view.steps file
  pub few : length new.pinned.recent ≤ 2
  pub holds : new.pinned.holds ≡ old.pinned.holds
  pub counts : CountsOn old new

-- The record is that of the answered generation, and the cells that the lookup needed were asked
-- for in order.
pub record IsLookedUp (files : Files) (file : ℕ) (cut : Cut) (r : Lookups) (old new : PassState)
    (generation : ℕ) (state : RecordState) : Type 0 where
  pub given : GivesRecord files file cut old.view new.view state
  pub of : state.generation ≡ generation
  pub asks : AsksForCells files state (visits_on state r) old new
  pub needs : NoneUncached old new → NeedsCells files state (visits_on state r) old new

-- The record is that of the generation for which the lookup failed.
pub record IsRefused {B : Type 0} (files : Files) (file : ℕ) (cut : Cut) (old new : PassState)
    (e : CacheError B) (state : RecordState) : Type 0 where
  pub given : GivesRecord files file cut old.view new.view state
  pub unfit : LookupRefuses state e

-- A step with the record of generation `from` met the newer generation `to`.
pub record IsOutdated (files : Files) (file : ℕ) (cut : Cut) (old new : PassState)
    (tap_old tap_new : TapState) (from to : ℕ) (state : RecordState) : Type 0 where
  pub given : GivesRecord files file cut old.view new.view state
  pub met : MetNewer files file state.generation from to new.view tap_old tap_new

-- The file was not opened, because a read of it met a newer generation.
pub record MovedAtOpening (files : Files) (file : ℕ) (old new : PassState)
    (tap_old tap_new : TapState) (from to : ℕ) : Type 0 where
  pub unopened : IsUnopened old new tap_old tap_new
  pub met : MetAtOpening files file from to (sighted old.view tap_old) (sighted new.view tap_new)

-- which record the pass keeps after a lookup that failed
abbrev pub KeepsAfter : {B : Type 0} → Files → ℕ → Cut → PassState → PassState → TapState → TapState
    → CacheError B → Type 0
KeepsAfter files file cut old new tap_old tap_new (refused.BadFile generation fault) =
    IsSomeAnd new.latest (IsRefused {B = Unit {0}} files file cut old new
    (refused.BadFile generation fault))
KeepsAfter files file cut old new tap_old tap_new (refused.TileTooLarge generation) =
    IsSomeAnd new.latest (IsRefused {B = Unit {0}} files file cut old new
    (refused.TileTooLarge generation))
KeepsAfter files file cut old new tap_old tap_new (refused.Again from to) =
    MovedAtOpening files file old new tap_old tap_new from to
    ⊎ IsSomeAnd new.latest (IsOutdated files file cut old new tap_old tap_new from to)
KeepsAfter files file cut old new tap_old tap_new e =
    KeepsOne files file cut old new tap_old tap_new

-- The pass keeps the record of the generation that was looked up. If the file could not be opened,
-- it keeps its old record, and the tap was called only to open the file.
abbrev pub KeepsRecord : {B : Type 0} → Files → ℕ → Cut → Lookups → PassState → PassState
    → TapState → TapState → Result ℕ (CacheError B) → Type 0
KeepsRecord files file cut r old new tap_old tap_new (Ok generation) =
    IsSomeAnd new.latest (IsLookedUp files file cut r old new generation)
KeepsRecord files file cut r old new tap_old tap_new (Err e) =
    KeepsAfter files file cut old new tap_old tap_new e

-- ---- warm lookups

-- The record is of this file, is valid with small enough cells, and the pass has seen no newer
-- generation.
pub record IsReady (file : ℕ) (pass : PassState) (state : RecordState) : Type 0 where
  pub of_file : state.file ≡ file
  pub fits : IsOkAnd state.layout (λ kept. CellsFit kept state.cut)
  pub newest : slice_index pass.view.seen file ≤ state.generation

-- The record is ready, and the microcache has every cell that the lookup needs.
pub record IsWarm (file : ℕ) (r : Lookups) (pass : PassState) (state : RecordState)
    : Type 0 where
  pub ready : IsReady file pass state
  pub cells : HasCells state pass.pinned.recent (visits_on state r)

-- The record's generation is answered without a call to the tap, or a newer generation was seen.
abbrev pub AnswersWarm : {E : Type 0} → ℕ → ℕ → Sighted → Sighted → Result ℕ E → Type 0
AnswersWarm file generation old new result =
    ((result ≡ Ok generation) × (new.tap ≡ old.tap))
    ⊎ (generation < slice_index new.view.seen file)

-- ---- lookups in the microcache alone

-- The record has the generation that was just seen, is valid with small enough cells, and the
-- microcache has every cell that the lookup needs.
pub record ServesLocally (file : ℕ) (r : Lookups) (old new : PassState) (state : RecordState)
    : Type 0 where
  pub serves : Serves file new.view state
  pub cells : HasCells state old.pinned.recent (visits_on state r)
