-- What do the steps of a lookup leave? Used inside this crate only.
use Rattle.std.specs.Prelude.{◌≡◌, ℕ, ◌<◌, ◌≤◌, Some, List, length, slice_index}
use Rattle.std.specs.Prelude.{Result, Ok, OnOk, IfErr, IsOkAnd}
use Rattle.std.specs.Option.{ForSome}
use Rattle.tex_world.specs.World.{Files}
use Rattle.tile_layout.specs.Cell.{CellsFit}
use Rattle.shard_gate.specs.Gate.{GateState}
use Rattle.shard_gate.specs.Since.{PurgesNone}
use Rattle.tile_source.specs.declared.error.CacheError.{CacheError}
use Rattle.tile_source.specs.Source.{PassTap}
use Rattle.file_table.specs.Record.{RecordState}
use Rattle.file_table.specs.Calls.{KeepsView}
use Rattle.tile_source.specs.Pass.{PassState, SamePlace}
use Rattle.tile_source.specs.Pass.{KeepsAllBut, view_and_record, recent_and_counts}
use Rattle.tile_source.specs.Call.{CountsOn, NoneFalls}
use Rattle.tile_source.specs.Cause.{StepCause, WantsByOpening}
use Rattle.image_cache.specs.Cause.{LookupRefuses, KeepsRecentAt}
use Rattle.texture_sys.specs.declared.lookup.Lookups.{Lookups}
use Rattle.texture_sys.specs.declared.stopped.Stopped.{Stopped}
use Rattle.texture_sys.specs.Asked.{AreFirstOn, KeepsOthers, whole}
use Rattle.texture_sys.specs.Look.{picture_of}
use Rattle.texture_sys.specs.Needs.{visits_on, HasCells, AsksForCells, VisitsStored}
use Rattle.texture_sys.specs.Call.{IsLookupOn}

-- The pass has checked the newest generation of this file only. Apart from the record nothing else
-- of it changed.
pub record AfterOpening (file : ℕ) (old new : PassState) : Type 0 where
  pub keeps : KeepsAllBut view_and_record old new
  pub view : KeepsView file old.view new.view
  pub looks : slice_index old.view.steps file < slice_index new.view.steps file
  pub few : length new.pinned.recent ≤ 2

-- Only the order of the microcache and the counts may have changed, and no count has fallen.
pub record CountsShown (old new : PassState) : Type 0 where
  pub counts : CountsOn old new
  pub kept : KeepsAllBut recent_and_counts old new

-- The state that a lookup on a record leaves.
pub record AfterLookupOn (state : RecordState) (old new : PassState) : Type 0 where
  pub place : SamePlace old new
  pub view : KeepsView state.file old.view new.view
  pub steps : slice_index old.view.steps state.file ≤ slice_index new.view.steps state.file
  pub few : length new.pinned.recent ≤ 2
  pub holds : new.pinned.holds ≡ old.pinned.holds
  pub latest : new.latest ≡ Some state
  pub counts : CountsOn old new

-- What lookups on a record answer, why they fail, and what they leave. `answer` is the result if the
-- microcache has every cell that they need.
pub record LooksUpOn {A B : Type 0} (files : Files) (gate : GateState) (known : RecordState)
    (r : Lookups) (answer : A) (old new : PassTap) (out_old out_new : List ℕ)
    (result : Result A (Stopped (CacheError B))) : Type 0 where
  pub value : ForSome (files.held known.file known.generation) (λ bytes.
      OnOk result (IsLookupOn known.cut bytes r out_new))
  -- the lookups before an error
  pub part : ForSome (files.held known.file known.generation) (λ bytes.
      IfErr result (λ s. AreFirstOn (picture_of known.cut bytes) r s.done out_new))
  pub rest : IfErr result (λ s. KeepsOthers r s.done out_old out_new)
  pub cause : IfErr (whole result) (StepCause files known new.pass.view old.tap new.tap LookupRefuses)
  pub unread : IfErr (whole result) (KeepsRecentAt old.pass new.pass)
  pub counts : CountsOn old.pass new.pass
  pub asks : OnOk (whole result) (AsksForCells files known (visits_on known r) old.pass new.pass)
  pub tap : NoneFalls old.tap new.tap
  pub visits : PurgesNone gate old.pass.pinned.seat new.pass.pinned.seat
  pub memory : VisitsStored r known → IfErr (whole result) (WantsByOpening old.tap new.tap)
  pub warm : IsOkAnd known.layout (λ kept. CellsFit kept known.cut)
      → HasCells known old.pass.pinned.recent (visits_on known r)
      → (whole result ≡ Ok answer) × (new.tap ≡ old.tap)
