-- A fact of a record's layout: if it comes from bytes, they have no fault.
use Rattle.std.proofs.Common.{◌≡◌, ℕ, List, Option, None, Some, Result, Ok, Err, refl}
use Rattle.std.proofs.Common.{IsOkAnd, IfOk, ap, ◌∙◌, subst, sym}
use Rattle.std.specs.Option.{ForSome, option_map_or}
use Rattle.tex_world.specs.World.{Files}
use Rattle.tex_world.specs.Tap.{Named}
use Rattle.tiff_format.specs.Fault.{first_fault}
use Rattle.tiff_format.specs.declared.fault.TiffFault.{TiffFault}
use Rattle.tiff_format.specs.declared.cut.Cut.{Cut}
use Rattle.tile_layout.specs.Cell.{CellsFit}
use Rattle.tile_layout.specs.Kept.{Kept, kept_of}
use Rattle.file_table.specs.Record.{RecordState, IsRecord, layout_of}
use Rattle.tile_store.specs.Tile.{CachedTile}
use Rattle.tile_load.specs.Load.{IsLayoutOf, IsReadBy, NamesCell}
use Rattle.tile_load.specs.CellTile.{IsCellTile}
use Rattle.tile_load.specs.Halving.{NamesGenerated}
use Rattle.tile_load.specs.declared.load_error.LoadError.{LoadError}

-- if a layout exists there is no fault, and the layout is the one that is kept
without_fault : (fault : Option TiffFault) (known : Result Kept TiffFault) (layout kept : Kept)
    → known ≡ Ok layout → known ≡ option_map_or Err fault (Ok kept)
    → (fault ≡ None) × (layout ≡ kept)
without_fault None known layout kept is same = (refl, cc)
without_fault (Some fault) known layout kept is same = absurd (cc (is, same))

pub layout_given : (bytes : List ℕ) (known : Result Kept TiffFault) (layout : Kept)
    → known ≡ Ok layout → known ≡ layout_of bytes → IsLayoutOf bytes layout
layout_given bytes known layout is same =
    let both = without_fault (first_fault bytes) known layout (kept_of bytes) is same in
    record { good = both.0; kept = both.1 }

-- there is no fault if a fact holds of the layout
pub no_fault : (known : Result Kept TiffFault) (fault : TiffFault) (P : Kept → Type 0)
    → known ≡ Err fault → IsOkAnd known P → ⊥
no_fault known fault P is holds = subst (λ k. IsOkAnd k P) is holds

-- The state is that of a record, and this is its layout.
module _ (state : RecordState) (layout : Kept) (is : state.layout ≡ Ok layout) where
  pub layout_told : (files : Files) (handle : Named) → IsRecord files state → IsReadBy handle state
      → ForSome (files.held handle.file handle.generation) (λ bytes. IsLayoutOf bytes layout)
  layout_told files handle honest reads = λ bytes told.
      layout_given bytes state.layout layout is (honest.layout bytes
      (ap (λ (n : ℕ). files.held n state.generation) reads.file
      ∙ ap (λ (n : ℕ). files.held handle.file n) reads.generation ∙ told))

  pub names_cell : (handle : Named) (cut : Cut) (key : ℕ)
      → IsOkAnd state.layout (λ l. NamesCell handle l cut key) → NamesCell handle layout cut key
  names_cell handle cut key cell =
      subst (λ k. IsOkAnd k (λ l. NamesCell handle l cut key)) is cell

  pub cells_fit : (cut : Cut) → IsOkAnd state.layout (λ l. CellsFit l cut) → CellsFit layout cut
  cells_fit cut fit = subst (λ k. IsOkAnd k (λ l. CellsFit l cut)) is fit

  pub names_generated : (cut : Cut) (key : ℕ)
      → IsOkAnd state.layout (λ l. NamesGenerated state l cut key) → NamesGenerated state layout cut key
  names_generated cut key cell =
      subst (λ k. IsOkAnd k (λ l. NamesGenerated state l cut key)) is cell

  pub is_cell_tile : (cut : Cut) (key : ℕ) (result : Result CachedTile LoadError)
      → IfOk result (IsCellTile layout cut key)
      → IsOkAnd state.layout (λ l. IfOk result (IsCellTile l cut key))
  is_cell_tile cut key result tile =
      subst (λ k. IsOkAnd k (λ l. IfOk result (IsCellTile l cut key))) (sym is) tile
