-- What do the cache's calls answer, and what do they leave of the pass?
use Rattle.std.specs.Prelude.{◌≡◌, ◌⊎◌, ℕ, ◌+◌, ◌≤◌, ◌++◌, IsTrue, List, ◌∷◌, []}
use Rattle.std.specs.Prelude.{slice_index, OnOk, OnErr}
use Rattle.std.specs.Prelude.{Option, Some, None, Result, Ok, IsOkAnd, IsSomeAnd}
use Rattle.tex_world.specs.World.{Files}
use Rattle.tex_world.specs.Tap.{TapState}
use Rattle.gen_board.specs.View.{ViewState, KeepsLooks, AfterStep}
use Rattle.file_table.specs.Record.{RecordState}
use Rattle.file_table.specs.Calls.{KeepsView, Sighted, GivesRecord, LooksOnce, OpensIfAtAll}
use Rattle.micro.specs.Items.{key_first}
use Rattle.tiff_format.specs.declared.cut.Cut.{Cut}
use Rattle.tile_layout.specs.Cell.{CellsFit}
use Rattle.tile_store.specs.Tile.{CachedTile}
use Rattle.tile_store.specs.Lawful.{FitsCut}
use Rattle.texel_values.specs.declared.texel_at.TexelAt.{TexelAt}
use Rattle.tile_source.specs.Pass.{PassState, SamePlace, SameCounts}
use Rattle.tile_source.specs.Pass.{KeepsAllBut, view_and_record}
use Rattle.pinned_tiles.specs.Pinned.{key_in}
use Rattle.tile_source.specs.Texel.{IsTexelOf, cell_of}
use Rattle.tile_source.specs.Call.{CountsOn}

-- ---- a need

-- It is answered, the tap was not called, and the pass has checked no generation.
pub record AnswersWarm {E : Type 0} (old new : Sighted) (result : Result (Unit {0}) E)
    : Type 0 where
  pub ok : result ≡ Ok tt
  pub tap : new.tap ≡ old.tap
  pub view : new.view ≡ old.view

-- ---- several needs

-- the microcache after the tile of a key, if one is given, was moved to the front
abbrev pub turned_to : Option ℕ → List CachedTile → List CachedTile
turned_to None tiles = tiles
turned_to (Some key) tiles = key_first key_in key tiles

-- ---- calls on a file

-- What every call on a file leaves of a pass, also one that fails: only this file's newest
-- generation may have risen, and no count has fallen.
pub record AfterCall (file : ℕ) (old new : PassState) : Type 0 where
  pub place : SamePlace old new
  pub view : KeepsView file old.view new.view
  pub counts : CountsOn old new

-- What every step of a call on a record leaves of a pass, also one that fails: only this file's
-- newest generation may have risen, without a read of the board. The pass's record is unchanged.
pub record AfterRecordStep (file : ℕ) (old new : PassState) : Type 0 where
  pub place : SamePlace old new
  pub view : KeepsView file old.view new.view
  pub looks : KeepsLooks old.view new.view
  pub steps : slice_index old.view.steps file ≤ slice_index new.view.steps file
  pub latest : new.latest ≡ old.latest

-- The microcache and the counts are unchanged.
pub record KeepsRecent (old new : PassState) : Type 0 where
  pub recent : new.pinned.recent ≡ old.pinned.recent
  pub counts : SameCounts old new

-- What a step that holds a cell leaves of a pass: what each step leaves, and microcache and counts
-- are unchanged.
pub record AfterHoldStep (file : ℕ) (old new : PassState) : Type 0 where
  pub step : AfterRecordStep file old new
  pub recent : KeepsRecent old new

-- The record was taken out of the pass, unless the call failed.
pub record TakesLatest {A E : Type 0} (old new : PassState) (result : Result A E) : Type 0 where
  pub taken : OnOk result (new.latest ≡ None)
  pub err : OnErr result (new.latest ≡ old.latest)

-- What finding the record of a file leaves: apart from that record only what the pass has seen may
-- differ. The board was read once, and the tap was called only to open the file.
pub record AfterOpen (file : ℕ) (old new : PassState) (tap_old tap_new : TapState) : Type 0 where
  pub same : KeepsAllBut view_and_record old new
  pub looks : LooksOnce file old.view new.view
  pub once : OpensIfAtAll tap_old tap_new

-- What a look for the record that the pass keeps leaves: the board was read once.
pub record AfterLook (file : ℕ) (old new : PassState) : Type 0 where
  pub same : KeepsAllBut view_and_record old new
  pub look : AfterStep file (slice_index new.view.seen file) old.view new.view

-- The board's number of the file was read once. The generation is at least as new as that.
pub record IsOfLook (file : ℕ) (old new : ViewState) (generation : ℕ) : Type 0 where
  pub once : slice_index new.looks file ≡ slice_index old.looks file + 1
  pub found : slice_index new.looked file ≤ generation

-- The pass keeps a record that this call found, of this generation, and `P` holds of it.
abbrev pub KeepsGiven : Files → ℕ → Cut → PassState → PassState → ℕ → (RecordState → Type 0)
    → Type 0
KeepsGiven files file cut old new generation P = IsSomeAnd new.latest (λ r.
    GivesRecord files file cut old.view new.view r × (r.generation ≡ generation) × P r)

-- The file was not opened: only what the pass has seen may differ, its record is unchanged, and the
-- tap was called at most to open the file.
pub record IsUnopened (old new : PassState) (tap_old tap_new : TapState) : Type 0 where
  pub latest : new.latest ≡ old.latest
  pub keeps : KeepsAllBut view_and_record old new
  pub once : OpensIfAtAll tap_old tap_new

-- The pass keeps a record that this call found, or the file was not opened.
abbrev pub KeepsOne : Files → ℕ → Cut → PassState → PassState → TapState → TapState → Type 0
KeepsOne files file cut old new tap_old tap_new = IsUnopened old new tap_old tap_new
    ⊎ IsSomeAnd new.latest (GivesRecord files file cut old.view new.view)

-- ---- holds

-- The cell of a texel is held, as the latest hold. If the world is modelled, the tile has the
-- cell's rectangle.
pub record HoldsCell (files : Files) (at : TexelAt) (old new : PassState) (r : RecordState)
    : Type 0 where
  pub tile : CachedTile
  pub held : new.pinned.holds ≡ old.pinned.holds ++ tile ∷ []
  pub fits : FitsCut files r.cut tile
  pub cell : IsOkAnd r.layout (λ kept. CellsFit kept r.cut × IsTexelOf kept r.cut at
      × (tile.key ≡ (cell_of r.generation r.file r.cut kept at).key))
  pub rect : IsTrue files.tells → IsOkAnd r.layout (λ kept.
      tile.rect ≡ (cell_of r.generation r.file r.cut kept at).rect)

-- The record is of this file and of the generation just seen, valid, and its cells are small
-- enough.
pub record Serves (file : ℕ) (view : ViewState) (r : RecordState) : Type 0 where
  pub of_file : r.file ≡ file
  pub newest : r.generation ≡ slice_index view.seen file
  pub fits : IsOkAnd r.layout (λ kept. CellsFit kept r.cut)
