-- Which visits do the steps of a call make, one after another, and did one of them miss a cell?
use Rattle.std.proofs.Common.{◌≡◌, ◌⊎◌, inl, inr, sym, ap, subst, List, [], ◌∷◌}
use Rattle.std.specs.Prelude.{IsTrue}
use Rattle.std.specs.List.{All}
use Rattle.std.proofs.lemmas.List.Elements.{All-head}
use Rattle.tex_world.specs.World.{Files}
use Rattle.tex_world.specs.Tap.{TapState}
use Rattle.tile_store.specs.Tile.{CachedTile}
use Rattle.tile_store.specs.Lawful.{FitsCut}
use Rattle.shard_gate.specs.Gate.{GateState, PinSeatState}
use Rattle.shard_gate.specs.Since.{PurgesNone, Misses}
use Rattle.shard_gate.proofs.SinceLemmas.{purges_none}
use Rattle.file_table.specs.Record.{RecordState, IsRecord}
use Rattle.texel_values.specs.declared.texel_at.TexelAt.{TexelAt}
use Rattle.pinned_tiles.specs.declared.cell.CellAt.{CellAt}
use Rattle.pinned_tiles.specs.Cell.{HasFirst, StandsFirst}
use Rattle.tile_source.specs.Pass.{PassState}
use Rattle.tile_source.specs.Texel.{IsCellIn, IsCellOf}
use Rattle.tile_source.specs.Call.{HasNoCall, MissesCellAt}
use Rattle.tile_source.proofs.TexelLemmas.{at_cell}
use Rattle.tile_source.proofs.NeedLemmas.{told_is_tile}

-- a seat that is as it was has made no visit
pub visits_same : (gate : GateState) (a b : PinSeatState) → b ≡ a → PurgesNone gate a b
visits_same gate a b same = purges_none gate a b (ap (λ (s : PinSeatState). s.visits) same)

module _ (gate : GateState) (a b c : PinSeatState) where
  -- visits after a step that makes none, and before one
  pub visits_from : b ≡ a → PurgesNone gate b c → PurgesNone gate a c
  visits_from same later = subst (λ (s : PinSeatState). PurgesNone gate s c) same later

  pub visits_to : PurgesNone gate a b → c ≡ b → PurgesNone gate a c
  visits_to first same = subst (λ (s : PinSeatState). PurgesNone gate a s) (sym same) first

-- the key that was missed is that of the cell of a texel
pub missed_at : (gate : GateState) (state : RecordState) (at : TexelAt) (cell : CellAt)
    (old new : PassState) (t u : TapState) → IsCellIn state at cell
    → (HasNoCall t u ⊎ Misses gate cell.key old.pinned.seat new.pinned.seat)
    → (HasNoCall t u ⊎ MissesCellAt gate state at old new)
missed_at gate state at cell old new t u is (inl none) = inl none
missed_at gate state at cell old new t u is (inr missed) = inr (at_cell
    (λ key. Misses gate key old.pinned.seat new.pinned.seat) state at cell is missed)

-- In a modelled world, the first tile, if it has the key, belongs to the cell.
pub told_stands : (files : Files) (state : RecordState) (cell : CellAt) (tiles : List CachedTile)
    → IsTrue files.tells → IsRecord files state → IsCellOf state cell → HasFirst cell.key tiles
    → All (FitsCut files state.cut) tiles → StandsFirst cell tiles
told_stands files state cell [] tells honest of first fits = absurd first
told_stands files state cell (t ∷ tiles) tells honest of first fits = (
  first,
  told_is_tile files state cell t tells honest of first
      (All-head (FitsCut files state.cut) t tiles fits),
)
