-- Which cells does a lookup need, when does a microcache have all of them, and what do the needs
-- leave?
use Rattle.std.specs.Prelude.{◌≡◌, ℕ, List, [], ◌∷◌, map, length, true, IfOk}
use Rattle.std.specs.List.{All}
use Rattle.tex_world.specs.World.{Files}
use Rattle.tiff_format.specs.declared.cut.Cut.{Cut}
use Rattle.tile_layout.specs.Kept.{Kept}
use Rattle.tile_store.specs.Tile.{CachedTile}
use Rattle.file_table.specs.Record.{RecordState}
use Rattle.texture_sys.specs.declared.lookup.Lookups.{Lookups}
use Rattle.texel_filter.specs.Image.{Texel}
use Rattle.texture_sys.specs.Asked.{all_visits}
use Rattle.tile_source.specs.Pass.{PassState, SameCounts, counted_together}
use Rattle.tile_source.specs.Texel.{has_cell_at, cell_of, IsStoredAt}
use Rattle.tile_source.specs.Call.{Needs, NoneUncached}
use Rattle.image_cache.specs.Sizes.{sizes_known}
use Rattle.image_cache.specs.Fetches.{at_of, AsksForCell}

-- the texels that lookups on a record visit, in order
abbrev pub visits_on : RecordState → Lookups → List Texel
visits_on state r = all_visits (sizes_known state) r

-- ---- cells in the microcache

-- these tiles include the cell that holds a texel of a record
abbrev pub HasCell : RecordState → List CachedTile → Texel → Type 0
HasCell state tiles texel = has_cell_at state (at_of texel) tiles ≡ true

-- these tiles include all cells that hold these texels
abbrev pub HasCells : RecordState → List CachedTile → List Texel → Type 0
HasCells state tiles texels = All (HasCell state tiles) texels

-- ---- stored levels

-- the lookup visits texels of stored levels only
abbrev pub VisitsStored : Lookups → RecordState → Type 0
VisitsStored r state = All (λ texel. IsStoredAt state (at_of texel)) (visits_on state r)

-- ---- asking for cells

-- the keys of the cells that hold these texels, for one generation of a file
abbrev pub lookup_keys_on : ℕ → ℕ → Cut → Kept → List Texel → List ℕ
lookup_keys_on generation file cut kept texels =
    map (λ texel. (cell_of generation file cut kept (at_of texel)).key) texels

-- The cells of a record that hold these texels were needed one after another.
abbrev pub NeedsCells : Files → RecordState → List Texel → PassState → PassState → Type 0
NeedsCells files state texels old new = IfOk state.layout (λ kept. Needs files
    (lookup_keys_on state.generation state.file state.cut kept texels) old new)

-- The pass asked for the cells that hold these texels, one after another.
abbrev pub AsksForEach : Files → RecordState → List Texel → PassState → PassState → Type 0
AsksForEach files state [] old new = SameCounts old new × (new.pinned.recent ≡ old.pinned.recent)
AsksForEach files state (texel ∷ rest) old new =
    (mid : PassState) × AsksForCell files state texel old mid
    × AsksForEach files state rest mid new

-- The pass asked for the cells that hold these texels, and counted each need. If none of them was
-- uncached, their keys were asked of the microcache in order.
pub record AsksForCells (files : Files) (state : RecordState) (texels : List Texel)
    (old new : PassState) : Type 0 where
  pub each : AsksForEach files state texels old new
  pub needs : new.needs ≡ counted_together old.needs (length texels)
  pub keys : NoneUncached old new → NeedsCells files state texels old new
