-- Which cells does a microcache have after one of its tiles was moved to the front?
use Rattle.std.proofs.Common.{◌≡◌, ℕ, Bool, true, false, not, ◌==◌, cond, refl, ap}
use Rattle.std.proofs.Common.{◌∙◌, List, [], ◌∷◌, Option, Some, None, Result, Ok, Err}
use Rattle.std.specs.Prelude.{IfOk}
use Rattle.std.specs.List.{find, filter}
use Rattle.std.specs.Option.{option_or, option_map_or}
use Rattle.std.proofs.lemmas.Bool.{eqb-true, eq-eqb}
use Rattle.std.proofs.lemmas.List.Folds.{find-append}
use Rattle.tiff_format.specs.declared.fault.TiffFault.{TiffFault}
use Rattle.tile_layout.specs.Kept.{Kept}
use Rattle.tile_store.specs.Tile.{CachedTile}
use Rattle.file_table.specs.Record.{RecordState}
use Rattle.micro.specs.Items.{has_key, key_first}
use Rattle.texel_values.specs.declared.texel_at.TexelAt.{TexelAt}
use Rattle.pinned_tiles.specs.declared.cell.CellAt.{CellAt}
use Rattle.pinned_tiles.specs.Pinned.{key_in}
use Rattle.tile_source.specs.Texel.{has_cell_at, has_cell_by, cell_of}
use Rattle.pinned_tiles.specs.Cell.{has_cell, is_tile_of}
use Rattle.tile_source.specs.Call.{MovesCellAt}

module _ {A : Type 0} (p q : A → Bool) where
  kept_step : (x : A) (xs : List A) (a b : Bool) → (p x ≡ true → q x ≡ true) → p x ≡ a → q x ≡ b
      → find p (filter q xs) ≡ find p xs
      → find p (cond b (x ∷ filter q xs) (filter q xs)) ≡ cond a (Some x) (find p xs)
  kept_step x xs true true both is has later = rw is refl
  kept_step x xs false true both is has later = rw is later
  kept_step x xs true false both is has later = absurd (cc (both is, has))
  kept_step x xs false false both is has later = later

  -- a search in a filtered list finds what it finds in the whole list, if the filter keeps all
  -- matches
  find_kept : ((x : A) → p x ≡ true → q x ≡ true) → (xs : List A)
      → find p (filter q xs) ≡ find p xs
  find_kept both [] = refl
  find_kept both (x ∷ xs) =
      kept_step x xs (p x) (q x) (both x) refl refl (find_kept both xs)

  dropped_step : (x : A) (xs : List A) (a b : Bool) → (p x ≡ true → q x ≡ false) → p x ≡ a
      → q x ≡ b → find p (filter q xs) ≡ None
      → find p (cond b (x ∷ filter q xs) (filter q xs)) ≡ None
  dropped_step x xs a false apart is has later = later
  dropped_step x xs false true apart is has later = rw is later
  dropped_step x xs true true apart is has later = absurd (cc (apart is, has))

  -- a search in a filtered list finds nothing if the filter drops all matches
  find_dropped : ((x : A) → p x ≡ true → q x ≡ false) → (xs : List A)
      → find p (filter q xs) ≡ None
  find_dropped apart [] = refl
  find_dropped apart (x ∷ xs) =
      dropped_step x xs (p x) (q x) (apart x) refl refl (find_dropped apart xs)

or_none : {A : Type 0} (o : Option A) → option_or o None ≡ o
or_none None = refl
or_none (Some x) = refl

-- moving a tile to the front does not change which tile has a key
find_first : (moved key : ℕ) (tiles : List CachedTile)
    → find (has_key key_in key) (key_first key_in moved tiles) ≡ find (has_key key_in key) tiles
find_first moved key tiles =
    find-append p (filter q tiles) (filter (λ t. not (q t)) tiles) ∙ by (key == moved) refl
  where
    p : CachedTile → Bool
    p = has_key key_in key

    q : CachedTile → Bool
    q = has_key key_in moved

    by : (same : Bool) → (key == moved) ≡ same
        → option_or (find p (filter q tiles)) (find p (filter (λ t. not (q t)) tiles))
        ≡ find p tiles
    by true is =
        let same : (t : CachedTile) → p t ≡ true → q t ≡ true =
        λ t has. eq-eqb (key_in t) moved (eqb-true (key_in t) key has ∙ eqb-true key moved is) in
        ap (λ (o : Option CachedTile). option_or o (find p (filter (λ t. not (q t)) tiles)))
        (find_kept p q same tiles)
        ∙ (ap (option_or (find p tiles)) (find_dropped p (λ t. not (q t))
        (λ t has. ap not (same t has)) tiles)
        ∙ or_none (find p tiles))
    by false is =
        let other : (t : CachedTile) → p t ≡ true → q t ≡ false =
        λ t has. ap (λ (k : ℕ). k == moved) (eqb-true (key_in t) key has) ∙ is in
        ap (λ (o : Option CachedTile). option_or o (find p (filter (λ t. not (q t)) tiles)))
        (find_dropped p q other tiles)
        ∙ find_kept p (λ t. not (q t)) (λ t has. ap not (other t has)) tiles

-- moving a tile to the front does not change whether a cell is there
pub has_first : (cell : CellAt) (moved : ℕ) (tiles : List CachedTile)
    → has_cell cell (key_first key_in moved tiles) ≡ has_cell cell tiles
has_first cell moved tiles = ap (λ (o : Option CachedTile). option_map_or (is_tile_of cell) o false)
    (find_first moved cell.key tiles)

pub has_moved : (state : RecordState) (at other : TexelAt) (old new : List CachedTile)
    → MovesCellAt state at old new → has_cell_at state other new ≡ has_cell_at state other old
has_moved state at other old new moves = by state.layout moves
  where
    key_of : Kept → TexelAt → ℕ
    key_of kept texel = (cell_of state.generation state.file state.cut kept texel).key

    by : (layout : Result Kept TiffFault)
        → IfOk layout (λ kept. new ≡ key_first key_in (key_of kept at) old)
        → has_cell_by state.generation state.file state.cut other new layout
        ≡ has_cell_by state.generation state.file state.cut other old layout
    by (Ok kept) is =
        let cell = cell_of state.generation state.file state.cut kept other in
        ap (λ (tiles : List CachedTile). has_cell cell tiles) is
        ∙ has_first cell (key_of kept at) old
    by (Err fault) is = refl
