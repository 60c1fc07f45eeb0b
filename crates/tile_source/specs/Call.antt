-- What is a need of a cell, and what does it leave of a pass and of the tap?
use Rattle.std.specs.Prelude.{◌≡◌, ◌⊎◌, ℕ, ◌<◌, ◌≤◌, Bool, IsTrue, List, ◌∷◌, []}
use Rattle.std.specs.Prelude.{length, count_by, slice_index}
use Rattle.std.specs.Prelude.{if◌then◌else◌, None, IfOk, IsOkAnd}
use Rattle.tex_world.specs.World.{Files}
use Rattle.tex_world.specs.Tap.{TapState}
use Rattle.gen_board.specs.View.{KeepsLooks}
use Rattle.file_table.specs.Record.{RecordState}
use Rattle.file_table.specs.Calls.{KeepsView}
use Rattle.micro.specs.Items.{key_first, HasKey}
use Rattle.micro.specs.Runs.{AreAsked}
use Rattle.tile_store.specs.Tile.{CachedTile}
use Rattle.shard_gate.specs.Gate.{GateState}
use Rattle.shard_gate.specs.Since.{Misses}
use Rattle.texel_values.specs.declared.texel_at.TexelAt.{TexelAt}
use Rattle.tile_source.specs.Pass.{PassState, SamePlace, counted, max_count}
use Rattle.tile_source.specs.Pass.{counted_together}
use Rattle.pinned_tiles.specs.Pinned.{key_in, AsksFor, IsAskedFor}
use Rattle.tile_source.specs.Texel.{cell_of}

-- ---- a need

-- No need was uncached: the count of uncached needs is the same and below its greatest value.
pub record NoneUncached (old new : PassState) : Type 0 where
  pub same : new.apart ≡ old.apart
  pub low : old.apart < max_count

-- One need was uncached and counted as such. If the world is modelled, the microcache is unchanged.
pub record IsUncached (files : Files) (old new : PassState) : Type 0 where
  pub counted : new.apart ≡ counted old.apart
  pub recent : IsTrue files.tells → new.pinned.recent ≡ old.pinned.recent

-- At most one need was uncached.
pub record MayBeUncached (files : Files) (old new : PassState) : Type 0 where
  pub later : old.apart ≤ new.apart
  pub either : (new.apart ≡ old.apart) ⊎ IsUncached files old new

-- The pass has counted one need, and one hit if its microcache had the cell.
pub record CountsNeed (hit : Bool) (old new : PassState) : Type 0 where
  pub needs : new.needs ≡ counted old.needs
  pub hits : new.hits ≡ (if hit then counted old.hits else old.hits)

-- the microcache was asked for the cell that holds a texel of a record
abbrev pub AsksForCellAt : RecordState → TexelAt → List CachedTile → List CachedTile → Type 0
AsksForCellAt state at old new = IfOk state.layout (λ kept.
    AsksFor (cell_of state.generation state.file state.cut kept at).key old new)

-- The microcache was asked for the cell of a texel: its tile, found or newly placed, is now first.
abbrev pub TurnsToCellAt : RecordState → TexelAt → List CachedTile → List CachedTile → Type 0
TurnsToCellAt state at old new = IfOk state.layout (λ kept.
    IsAskedFor (cell_of state.generation state.file state.cut kept at).key old new)

-- The tile of the texel's cell was moved to the front, and no other tile was moved.
abbrev pub MovesCellAt : RecordState → TexelAt → List CachedTile → List CachedTile → Type 0
MovesCellAt state at old new = IfOk state.layout (λ kept.
    new ≡ key_first key_in (cell_of state.generation state.file state.cut kept at).key old)

-- What every need leaves of a pass, also one that fails: only this file's newest generation may
-- have risen, without a read of the board. Its holds and its record are unchanged.
pub record AfterNeed (file : ℕ) (old new : PassState) : Type 0 where
  pub place : SamePlace old new
  pub view : KeepsView file old.view new.view
  pub looks : KeepsLooks old.view new.view
  pub steps : slice_index old.view.steps file ≤ slice_index new.view.steps file
  pub few : length new.pinned.recent ≤ 2
  pub holds : new.pinned.holds ≡ old.pinned.holds
  pub latest : new.latest ≡ old.latest

-- No tile is in hand that was not there before, unless the waiter can give up.
abbrev pub LeavesNoHand : Type 0 → PassState → PassState → Type 0
LeavesNoHand Busy old new = (new.pinned.hand ≡ None)
    ⊎ ((new.pinned.hand ≡ old.pinned.hand) ⊎ Busy)

-- No count of the tap has fallen, and no newest generation was asked for.
pub record NoneFalls (old new : TapState) : Type 0 where
  pub faults : old.faults ≤ new.faults
  pub calls : old.calls ≤ new.calls
  pub opens : old.opens ≤ new.opens
  pub moves : old.moves ≤ new.moves
  pub asks : new.asks ≡ old.asks
  pub newest : new.newest ≡ old.newest

-- The tap was not called.
abbrev pub HasNoCall : TapState → TapState → Type 0
HasNoCall old new = new ≡ old

-- The shard of a texel's cell was visited, and its entries lacked the cell's key.
abbrev pub MissesCellAt : GateState → RecordState → TexelAt → PassState → PassState → Type 0
MissesCellAt gate state at old new = IfOk state.layout (λ kept. Misses gate
    (cell_of state.generation state.file state.cut kept at).key old.pinned.seat new.pinned.seat)

-- The pass holds a tile with the key of the texel's cell.
abbrev pub HoldsCellAt : RecordState → TexelAt → PassState → Type 0
HoldsCellAt state at pass = IsOkAnd state.layout (λ kept.
    HasKey key_in (cell_of state.generation state.file state.cut kept at).key pass.pinned.holds)

-- ---- several needs

-- The pass has counted this number of needs, all of them hits.
pub record CountsHits (needs : ℕ) (old new : PassState) : Type 0 where
  pub needs_counted : new.needs ≡ counted_together old.needs needs
  pub hits_counted : new.hits ≡ counted_together old.hits needs
  pub apart : new.apart ≡ old.apart

-- These cells were needed one after another. Each need is counted and the microcache was asked for
-- their keys. If the world is modelled, each cell that it had is a hit.
pub record Needs (files : Files) (keys : List ℕ) (old new : PassState) : Type 0 where
  pub answers : List Bool
  pub asked : AreAsked key_in old.pinned.recent keys answers new.pinned.recent
  pub needs : new.needs ≡ counted_together old.needs (length keys)
  pub hits : IsTrue files.tells
      → new.hits ≡ counted_together old.hits (count_by (λ hit. hit) answers)

-- The cell that holds a texel of a record was needed, and the need counted.
abbrev pub NeedsCellAt : Files → RecordState → TexelAt → PassState → PassState → Type 0
NeedsCellAt files state at old new = IfOk state.layout (λ kept. Needs files
    ((cell_of state.generation state.file state.cut kept at).key ∷ []) old new)

-- No count of the pass has fallen.
pub record CountsOn (old new : PassState) : Type 0 where
  pub needs : old.needs ≤ new.needs
  pub hits : old.hits ≤ new.hits
  pub apart : old.apart ≤ new.apart
