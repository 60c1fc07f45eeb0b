-- What a texel of a record is answered, by the tile of its cell.
use Rattle.std.proofs.Common.{◌≡◌, ℕ, Bool, true, false, refl, ap, sym, subst, ◌∙◌, List}
use Rattle.std.proofs.Common.{Result, Ok, Err, Option, Some, ◌<◌, ◌≤◌, nat_lt, arith}
use Rattle.std.proofs.lemmas.Bool.{ltb-true, ltb-false}
use Rattle.tex_world.specs.Counts.{Rises, last_count}
use Rattle.tex_world.specs.Tap.{TapState}
use Rattle.gen_board.specs.View.{ViewState}
use Rattle.tile_source.specs.declared.error.CacheError.{CacheError}
use Rattle.tile_source.specs.declared.error.CacheError.TheVariants as refused
use Rattle.std.specs.Prelude.{IsOkAnd, IfOk, IsSomeAnd, IsTrue}
use Rattle.tex_world.specs.World.{Files, IsWorld}
use Rattle.tiff_format.specs.declared.fault.TiffFault.{TiffFault}
use Rattle.tile_layout.specs.Key.{generation_of, file_of, level_of}
use Rattle.tile_layout.specs.Kept.{Kept}
use Rattle.tile_layout.specs.Level.{level_count_in}
use Rattle.tile_layout.specs.Cell.{bit_depth_in, bit_depth_of}
use Rattle.tile_store.specs.Tile.{CachedTile}
use Rattle.file_table.specs.Record.{RecordState, IsRecord, HasCutLevel}
use Rattle.tile_load.proofs.KnownLayouts.{layout_told}
use Rattle.texel_values.specs.declared.texel_at.TexelAt.{TexelAt}
use Rattle.pinned_tiles.specs.declared.cell.CellAt.{CellAt}
use Rattle.tile_store.specs.Told.{ToldBy}
use Rattle.tile_source.specs.Texel.{IsCellIn, IsCellAt, IsCellOf, IsCellUnder, cell_of}
use Rattle.texel_values.specs.Values.{AreValuesAt, AreToldValues}
use Rattle.pinned_tiles.specs.Pinned.{AsksFor}
use Rattle.tile_source.specs.Call.{AsksForCellAt, NoneFalls}
use Rattle.tile_source.specs.Cause.{FetchCause, WantsByOpening}

-- a world with known bytes is modelled
pub tells_of : (files : Files) → IsWorld files → (n g : ℕ) (bytes : List ℕ)
    → files.held n g ≡ Some bytes → IsTrue files.tells
tells_of files world n g bytes held = by files.tells refl
  where
    by : (tells : Bool) → files.tells ≡ tells → tells ≡ true
    by true is = refl
    by false is = absurd (cc (world.untold is n g, held))

-- a fact of the bytes of a generation
pub of_held : (o : Option (List ℕ)) (bytes : List ℕ) (P : List ℕ → Type 0) → o ≡ Some bytes
    → IsSomeAnd o P → P bytes
of_held o bytes P is holds = subst (λ (q : Option (List ℕ)). IsSomeAnd q P) is holds

-- the bits of a sample are those of the bytes of the record
depth_told : (files : Files) (state : RecordState) (depth : ℕ) (bytes : List ℕ)
    (layout : Result Kept TiffFault) → state.layout ≡ layout → IsRecord files state
    → files.held state.file state.generation ≡ Some bytes
    → IsOkAnd layout (λ kept. Unit {0}) → IfOk layout (λ kept. depth ≡ bit_depth_in kept)
    → depth ≡ bit_depth_of bytes
depth_told files state depth bytes (Ok kept) is honest held some same =
    same ∙ ap bit_depth_in (layout_told state kept is files
    (record { file = state.file; generation = state.generation; len = 0 }) honest
    (record { file = refl; generation = refl }) bytes held).kept
depth_told files state depth bytes (Err fault) is honest held some same = absurd some

pub values_told : (files : Files) → IsWorld files → (state : RecordState) (at : TexelAt)
    (cell : CellAt) (tile : CachedTile) (depth : ℕ) (out bytes : List ℕ) → IsRecord files state
    → IsCellAt state at cell → tile.key ≡ cell.key
    → IfOk state.layout (λ kept. depth ≡ bit_depth_in kept)
    → AreToldValues files tile depth at out
    → files.held state.file state.generation ≡ Some bytes → AreValuesAt bytes at out
values_told files world state at cell tile depth out bytes honest is_at key same told held =
    let file : file_of tile.key ≡ state.file = ap file_of key ∙ is_at.of.file in
    let generation : generation_of tile.key ≡ state.generation =
    ap generation_of key ∙ is_at.of.generation in
    of_held (files.held (file_of tile.key) (generation_of tile.key)) bytes
    (λ b. level_of tile.key ≡ at.level → depth ≡ bit_depth_of b → AreValuesAt b at out)
    (ap (λ (n : ℕ). files.held n (generation_of tile.key)) file
    ∙ (ap (λ (n : ℕ). files.held state.file n) generation ∙ held))
    (told (tells_of files world state.file state.generation bytes held))
    (ap level_of key ∙ is_at.level)
    (depth_told files state depth bytes state.layout refl honest held
    (some_layout state.layout is_at.of.under) same)
  where
    some_layout : (layout : Result Kept TiffFault) → IsOkAnd layout (λ kept. IsCellUnder kept state.cut cell)
        → IsOkAnd layout (λ kept. Unit {0})
    some_layout (Ok kept) under = tt
    some_layout (Err fault) under = absurd under

-- What a tile of a cell says about its file's bytes, if its samples are in range.
pub told_by_record : (files : Files) → IsWorld files → (state : RecordState) (cell : CellAt)
    (key depth : ℕ) (bytes : List ℕ) (P : List ℕ → Type 0) → IsRecord files state
    → IsCellOf state cell → key ≡ cell.key → IfOk state.layout (λ kept. depth ≡ bit_depth_in kept)
    → ToldBy files key (λ b. depth ≡ bit_depth_of b → P b)
    → files.held state.file state.generation ≡ Some bytes → P bytes
told_by_record files world state cell key depth bytes P honest of keyed same told held =
    let file : file_of key ≡ state.file = ap file_of keyed ∙ of.file in
    let generation : generation_of key ≡ state.generation = ap generation_of keyed ∙ of.generation in
    of_held (files.held (file_of key) (generation_of key)) bytes
    (λ b. depth ≡ bit_depth_of b → P b)
    (ap (λ (n : ℕ). files.held n (generation_of key)) file
    ∙ (ap (λ (n : ℕ). files.held state.file n) generation ∙ held))
    (told (tells_of files world state.file state.generation bytes held))
    (depth_told files state depth bytes state.layout refl honest held
    (some_layout state.layout of.under) same)
  where
    some_layout : (layout : Result Kept TiffFault)
        → IsOkAnd layout (λ kept. IsCellUnder kept state.cut cell)
        → IsOkAnd layout (λ kept. Unit {0})
    some_layout (Ok kept) under = tt
    some_layout (Err fault) under = absurd under

-- a fact of the key of a texel's cell
pub at_cell : (P : ℕ → Type 0) (state : RecordState) (at : TexelAt) (cell : CellAt)
    → IsCellIn state at cell → P cell.key
    → IfOk state.layout (λ kept. P (cell_of state.generation state.file state.cut kept at).key)
at_cell P state at cell is here = by state.layout is
  where
    by : (layout : Result Kept TiffFault)
        → IsOkAnd layout (λ kept. cell ≡ cell_of state.generation state.file state.cut kept at)
        → IfOk layout (λ kept. P (cell_of state.generation state.file state.cut kept at).key)
    by (Ok kept) same = subst (λ (c : CellAt). P c.key) same here
    by (Err fault) same = tt

-- a fact of the key of the cell that holds a texel
pub from_cell : (P : ℕ → Type 0) (state : RecordState) (at : TexelAt) (cell : CellAt)
    → IsCellIn state at cell
    → IsOkAnd state.layout (λ kept. P (cell_of state.generation state.file state.cut kept at).key)
    → P cell.key
from_cell P state at cell is here = by state.layout is here
  where
    by : (layout : Result Kept TiffFault)
        → IsOkAnd layout (λ kept. cell ≡ cell_of state.generation state.file state.cut kept at)
        → IsOkAnd layout (λ kept. P (cell_of state.generation state.file state.cut kept at).key)
        → P cell.key
    by (Ok kept) same there = subst (λ (c : CellAt). P c.key) (sym same) there
    by (Err fault) same there = absurd same

pub asks_at : (state : RecordState) (at : TexelAt) (cell : CellAt) (old new : List CachedTile)
    → IsCellIn state at cell → AsksFor cell.key old new → AsksForCellAt state at old new
asks_at state at cell old new is asks = by state.layout is
  where
    by : (layout : Result Kept TiffFault)
        → IsOkAnd layout (λ kept. cell ≡ cell_of state.generation state.file state.cut kept at)
        → IfOk layout (λ kept.
        AsksFor (cell_of state.generation state.file state.cut kept at).key old new)
    by (Ok kept) same = subst (λ (c : CellAt). AsksFor c.key old new) same asks
    by (Err fault) same = tt

rises_by : (old mid new : ℕ) → old ≤ mid → Rises mid new → (low : Bool)
    → nat_lt mid last_count ≡ low → old < last_count → old < new
rises_by old mid new later rises true is low =
    omega (arith, later, rises.rose (ltb-true mid last_count is))
rises_by old mid new later rises false is low =
    omega (arith, low, rises.later, ltb-false mid last_count is)

pub rises_since : (old mid new : ℕ) → old ≤ mid → Rises mid new → Rises old new
rises_since old mid new later rises = record {
  later = omega (arith, later, rises.later);
  rose = rises_by old mid new later rises (nat_lt mid last_count) refl;
}

-- A cause since a later moment is one since an earlier one.
pub cause_since : {B : Type 0} (files : Files) (r : RecordState) (view : ViewState)
    (old mid new : TapState) (e : CacheError B) → NoneFalls old mid
    → FetchCause files r view mid new e → FetchCause files r view old new e
cause_since files r view old mid new (refused.Again from to) later met = record {
  from_is = met.from_is;
  from_real = met.from_real;
  to_real = met.to_real;
  newer = met.newer;
  seen = met.seen;
  moves = rises_since old.moves mid.moves new.moves later.moves met.moves;
}
cause_since files r view old mid new refused.ReadFault later rises =
    rises_since old.faults mid.faults new.faults later.faults rises
cause_since files r view old mid new refused.NoMemory later free = tt
cause_since files r view old mid new (refused.Busy b) later free = tt
cause_since files r view old mid new (refused.BadFile generation fault) later none = none
cause_since files r view old mid new (refused.TileTooLarge generation) later none = none
cause_since files r view old mid new (refused.NoLevel generation levels) later none = none
cause_since files r view old mid new (refused.Outside generation) later none = none
cause_since files r view old mid new refused.RegionTooLarge later none = none
cause_since files r view old mid new refused.HoldsFull later none = none

-- memory that ran out because of an opening did so since an earlier moment
pub wants_since : {B : Type 0} (old mid new : TapState) (e : CacheError B) → NoneFalls old mid
    → WantsByOpening mid new e → WantsByOpening old new e
wants_since old mid new refused.NoMemory later rises =
    rises_since old.opens mid.opens new.opens later.opens rises
wants_since old mid new (refused.Again from to) later free = tt
wants_since old mid new refused.ReadFault later free = tt
wants_since old mid new (refused.Busy b) later free = tt
wants_since old mid new (refused.BadFile generation fault) later free = tt
wants_since old mid new (refused.TileTooLarge generation) later free = tt
wants_since old mid new (refused.NoLevel generation levels) later free = tt
wants_since old mid new (refused.Outside generation) later free = tt
wants_since old mid new refused.RegionTooLarge later free = tt
wants_since old mid new refused.HoldsFull later free = tt

-- a record has the level of each of its cells
pub level_of_cell : (state : RecordState) (cell : CellAt) → IsCellOf state cell
    → HasCutLevel state (level_of cell.key)
level_of_cell state cell of = by state.layout of.under
  where
    by : (layout : Result Kept TiffFault)
        → IsOkAnd layout (λ kept. IsCellUnder kept state.cut cell)
        → IsOkAnd layout (λ kept. level_of cell.key < level_count_in kept state.cut.automip)
    by (Ok kept) under = under.level
    by (Err fault) under = absurd under

pub level_there : (state : RecordState) (at : TexelAt) (cell : CellAt) → IsCellAt state at cell
    → HasCutLevel state at.level
level_there state at cell is =
    subst (λ (l : ℕ). HasCutLevel state l) is.level (level_of_cell state cell is.of)
