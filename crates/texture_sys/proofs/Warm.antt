-- A lookup whose cells are all in the microcache.
use Rattle.std.proofs.Common.{◌≡◌, ◌⊎◌, ℕ, ◌<◌, ◌≤◌, sym, ap, subst, ◌∙◌, inl, inr, arith, List}
use Rattle.std.proofs.Common.{Option, Some, None, Result, Ok, slice_index}
use Rattle.std.specs.Prelude.{IsOkAnd, IfSome}
use Rattle.tex_world.specs.Tap.{TapState}
use Rattle.tile_layout.specs.Cell.{CellsFit}
use Rattle.tile_store.specs.Tile.{CachedTile}
use Rattle.file_table.specs.Record.{RecordState}
use Rattle.file_table.specs.Calls.{sighted}
use Rattle.texture_sys.specs.declared.lookup.Lookups.{Lookups}
use Rattle.tile_source.specs.Pass.{PassState}
use Rattle.texture_sys.specs.Needs.{visits_on, HasCells}
use Rattle.texture_sys.specs.Call.{IsReady, IsWarm}
use Rattle.texture_sys.specs.Call.{AnswersWarm}

module _ {E : Type 0} (file : ℕ) (r : Lookups) (old mid new : PassState)
    (tap_old tap_mid tap_new : TapState) (k : RecordState) (result : Result ℕ E)
    (later : slice_index mid.view.seen file ≤ slice_index new.view.seen file)
    (recent : mid.pinned.recent ≡ old.pinned.recent)
    (look : IsOkAnd k.layout (λ kept. CellsFit kept k.cut)
    → HasCells k mid.pinned.recent (visits_on k r)
    → (result ≡ Ok k.generation) × (tap_new ≡ tap_mid)) where
  warm_by : (known : RecordState) → IsWarm file r old known
      → ((k ≡ known) × (tap_mid ≡ tap_old))
      ⊎ (known.generation < slice_index mid.view.seen file)
      → AnswersWarm file known.generation (sighted old.view tap_old) (sighted new.view tap_new)
      result
  warm_by known warm (inl (same, tap)) =
      let fits = subst (λ (x : RecordState). IsOkAnd x.layout (λ kept. CellsFit kept x.cut))
      (sym same) warm.ready.fits in
      let cells = subst (λ (x : RecordState). HasCells x mid.pinned.recent (visits_on x r))
      (sym same) (subst (λ (tiles : List CachedTile). HasCells known tiles (visits_on known r))
      (sym recent) warm.cells) in
      let looked = look fits cells in
      inl (looked.0 ∙ ap (λ (x : RecordState). Ok x.generation) same, looked.1 ∙ tap)
  warm_by known warm (inr newer) = inr (omega (arith, newer, later))

  pub texture_warm : (latest : Option RecordState)
      → IfSome latest (λ known. IsReady file old known → ((k ≡ known) × (tap_mid ≡ tap_old))
      ⊎ (known.generation < slice_index mid.view.seen file))
      → IfSome latest (λ known. IsWarm file r old known → AnswersWarm file known.generation
      (sighted old.view tap_old) (sighted new.view tap_new) result)
  texture_warm None ready = tt
  texture_warm (Some known) ready = λ warm. warm_by known warm (ready warm.ready)
