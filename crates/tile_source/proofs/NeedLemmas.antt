-- What one need asks of a microcache, and when its tile is that of the cell.
use Rattle.std.proofs.Common.{◌≡◌, ℕ, ◌≤◌, ◌==◌, ◌&&◌, Bool, true, false, nat_eq}
use Rattle.std.proofs.Common.{List, [], ◌∷◌, map, count_by, refl, sym, ap, subst, ◌∙◌, arith}
use Rattle.std.proofs.Common.{Option, Some, None, Result, Ok, Err}
use Rattle.std.specs.Prelude.{IsOkAnd, IsSomeAnd, IsTrue, OnOk, if◌then◌else◌}
use Rattle.std.specs.List.{All, list_any}
use Rattle.std.proofs.lemmas.Bool.{eqb-true, eq-eqb, and_parts}
use Rattle.std.proofs.lemmas.Cmp.{nat_eq_equiv}
use Rattle.std.proofs.lemmas.List.Elements.{All-nil, All-cons, All-head, All-tail}
use Rattle.tex_world.specs.World.{Files}
use Rattle.tiff_format.specs.declared.fault.TiffFault.{TiffFault}
use Rattle.tiff_format.specs.declared.rect.Rect.{Rect}
use Rattle.tile_layout.specs.Key.{generation_of, file_of, level_of, index_of}
use Rattle.tile_layout.specs.Kept.{Kept, kept_of}
use Rattle.tile_layout.specs.Cell.{cell_rect, cut_level_in}
use Rattle.tile_store.specs.Tile.{CachedTile}
use Rattle.tile_store.specs.Lawful.{FitsCut}
use Rattle.tile_store.specs.Lawful.{IsTileUnder as IsCellTileOf}
use Rattle.file_table.specs.Record.{RecordState, IsRecord}
use Rattle.tile_load.proofs.KnownLayouts.{layout_told}
use Rattle.micro.specs.Runs.{IsAsked}
use Rattle.micro.proofs.HitLemmas.{any_from_Contains, none_from_absent}
use Rattle.pinned_tiles.specs.declared.cell.CellAt.{CellAt}
use Rattle.texel_values.specs.declared.texel_at.TexelAt.{TexelAt}
use Rattle.pinned_tiles.specs.Pinned.{key_in, AsksFor, IsAskedFor}
use Rattle.pinned_tiles.specs.Cell.{is_rect, is_tile_of, has_cell}
use Rattle.tile_source.specs.Pass.{PassState, SameCounts, counted, counted_together, max_count}
use Rattle.tile_source.specs.Texel.{IsCellOf, IsCellAt, IsCellUnder}
use Rattle.tile_source.specs.Call.{CountsNeed, Needs}
use Rattle.tile_source.specs.Source.{IsNeededAt}
use Rattle.tile_source.proofs.TexelLemmas.{at_cell}

-- ---- a tile of a cell

both_true : (a b : Bool) → a ≡ true → b ≡ true → (a && b) ≡ true
both_true true b is here = here
both_true false b is here = absurd cc

rect_same : (a b : Rect) → a ≡ b → is_rect a b ≡ true
rect_same a b same =
    both_true (a.x == b.x) ((a.y == b.y) && ((a.w == b.w) && (a.h == b.h)))
    (eq-eqb a.x b.x (ap (λ (r : Rect). r.x) same))
    (both_true (a.y == b.y) ((a.w == b.w) && (a.h == b.h))
    (eq-eqb a.y b.y (ap (λ (r : Rect). r.y) same))
    (both_true (a.w == b.w) (a.h == b.h) (eq-eqb a.w b.w (ap (λ (r : Rect). r.w) same))
    (eq-eqb a.h b.h (ap (λ (r : Rect). r.h) same))))

-- a tile of the cell has its rectangle and its number of samples
pub record IsTileLike (cell : CellAt) (tile : CachedTile) : Type 0 where
  pub x : tile.rect.x ≡ cell.rect.x
  pub y : tile.rect.y ≡ cell.rect.y
  pub w : tile.rect.w ≡ cell.rect.w
  pub h : tile.rect.h ≡ cell.rect.h
  pub channels : tile.channels ≡ cell.channels

pub tile_like : (cell : CellAt) (tile : CachedTile) → is_tile_of cell tile ≡ true
    → IsTileLike cell tile
tile_like cell tile is =
    let a = tile.rect in
    let b = cell.rect in
    let all = and_parts (is_rect a b) (tile.channels == cell.channels) is in
    let xs = and_parts (a.x == b.x) ((a.y == b.y) && ((a.w == b.w) && (a.h == b.h))) all.0 in
    let ys = and_parts (a.y == b.y) ((a.w == b.w) && (a.h == b.h)) xs.1 in
    let ws = and_parts (a.w == b.w) (a.h == b.h) ys.1 in
    record {
      x = eqb-true a.x b.x xs.0;
      y = eqb-true a.y b.y ys.0;
      w = eqb-true a.w b.w ws.0;
      h = eqb-true a.h b.h ws.1;
      channels = eqb-true tile.channels cell.channels all.1;
    }

pub rect_of_parts : (a b : Rect) → a.x ≡ b.x → a.y ≡ b.y → a.w ≡ b.w → a.h ≡ b.h → a ≡ b
rect_of_parts a b x y w h =
    let from : Rect = record { x = b.x; y = a.y; w = a.w; h = a.h } in
    let with_x : a ≡ from = ap (λ (n : ℕ). record { x = n; y = a.y; w = a.w; h = a.h }) x in
    with_x
    ∙ (ap (λ (n : ℕ). record { x = b.x; y = n; w = a.w; h = a.h }) y
    ∙ (ap (λ (n : ℕ). record { x = b.x; y = b.y; w = n; h = a.h }) w
    ∙ ap (λ (n : ℕ). record { x = b.x; y = b.y; w = b.w; h = n }) h))

pub rect_like : (cell : CellAt) (tile : CachedTile) → is_tile_of cell tile ≡ true
    → tile.rect ≡ cell.rect
rect_like cell tile is =
    let like = tile_like cell tile is in
    rect_of_parts tile.rect cell.rect like.x like.y like.w like.h

-- ---- in a modelled world, a tile with the key belongs to the cell

held_parts : (files : Files) (state : RecordState) (cell : CellAt) (key : ℕ)
    (P : List ℕ → Type 0) → key ≡ cell.key → IsCellOf state cell
    → IsSomeAnd (files.held (file_of key) (generation_of key)) P
    → (bytes : List ℕ) × (files.held state.file state.generation ≡ Some bytes) × P bytes
held_parts files state cell key P same of some =
    by (files.held state.file state.generation) refl
    (subst (λ (o : Option (List ℕ)). IsSomeAnd o P)
    (ap (λ (n : ℕ). files.held n (generation_of key)) (ap file_of same ∙ of.file)
    ∙ ap (λ (n : ℕ). files.held state.file n) (ap generation_of same ∙ of.generation)) some)
  where
    by : (o : Option (List ℕ)) → files.held state.file state.generation ≡ o → IsSomeAnd o P
        → (bytes : List ℕ) × (files.held state.file state.generation ≡ Some bytes) × P bytes
    by (Some bytes) is p = (bytes, is, p)
    by None is p = absurd p

under_bytes : (files : Files) (state : RecordState) (cell : CellAt) (bytes : List ℕ)
    (layout : Result Kept TiffFault) → state.layout ≡ layout → IsRecord files state
    → files.held state.file state.generation ≡ Some bytes
    → IsOkAnd layout (λ kept. IsCellUnder kept state.cut cell)
    → IsCellUnder (kept_of bytes) state.cut cell
under_bytes files state cell bytes (Ok kept) is honest held under =
    subst (λ (k : Kept). IsCellUnder k state.cut cell)
    (layout_told state kept is files
    (record { file = state.file; generation = state.generation; len = 0 }) honest
    (record { file = refl; generation = refl }) bytes held).kept under
under_bytes files state cell bytes (Err fault) is honest held under = absurd under

-- what a tile with the key has in common with the cell, in a modelled world
record IsAsCell (cell : CellAt) (tile : CachedTile) : Type 0 where
  rect : tile.rect ≡ cell.rect
  channels : tile.channels ≡ cell.channels

told_as_cell : (files : Files) (state : RecordState) (cell : CellAt) (tile : CachedTile)
    → IsTrue files.tells → IsRecord files state → IsCellOf state cell → tile.key ≡ cell.key
    → FitsCut files state.cut tile → IsAsCell cell tile
told_as_cell files state cell tile tells honest of same fits =
    let held = held_parts files state cell tile.key
    (λ bytes. IsCellTileOf state.cut bytes tile) same of (fits tells) in
    let bytes = held.0 in
    let under = under_bytes files state cell bytes state.layout refl honest held.1 of.under in
    record {
      rect = held.2.cell.rect
          ∙ (ap (λ (k : ℕ). cell_rect (cut_level_in (kept_of bytes) state.cut (level_of k))
          (index_of k)) same ∙ sym under.rect);
      channels = held.2.of_bytes.channels ∙ sym under.channels;
    }

pub told_rect : (files : Files) (state : RecordState) (cell : CellAt) (tile : CachedTile)
    → IsTrue files.tells → IsRecord files state → IsCellOf state cell → tile.key ≡ cell.key
    → FitsCut files state.cut tile → tile.rect ≡ cell.rect
told_rect files state cell tile tells honest of same fits =
    (told_as_cell files state cell tile tells honest of same fits).rect

pub told_is_tile : (files : Files) (state : RecordState) (cell : CellAt) (tile : CachedTile)
    → IsTrue files.tells → IsRecord files state → IsCellOf state cell → tile.key ≡ cell.key
    → FitsCut files state.cut tile → is_tile_of cell tile ≡ true
told_is_tile files state cell tile tells honest of same fits =
    let alike = told_as_cell files state cell tile tells honest of same fits in
    both_true (is_rect tile.rect cell.rect) (tile.channels == cell.channels)
    (rect_same tile.rect cell.rect alike.rect) (eq-eqb tile.channels cell.channels alike.channels)

key_decides_at : (cell : CellAt) (t : CachedTile) (tiles : List CachedTile) (is : Bool)
    → nat_eq t.key cell.key ≡ is → (t.key ≡ cell.key → is_tile_of cell t ≡ true)
    → has_cell cell tiles ≡ list_any (nat_eq cell.key) (map key_in tiles)
    → has_cell cell (t ∷ tiles) ≡ list_any (nat_eq cell.key) (map key_in (t ∷ tiles))
key_decides_at cell t tiles true is here rest =
    rw (is, nat_eq_equiv.symm cell.key t.key, is) (here (eqb-true t.key cell.key is))
key_decides_at cell t tiles false is here rest =
    rw (is, nat_eq_equiv.symm cell.key t.key, is) rest

-- in a modelled world, the key alone decides
key_decides : (cell : CellAt) (tiles : List CachedTile)
    → All (λ tile. tile.key ≡ cell.key → is_tile_of cell tile ≡ true) tiles
    → has_cell cell tiles ≡ list_any (nat_eq cell.key) (map key_in tiles)
key_decides cell [] all = refl
key_decides cell (t ∷ tiles) all =
    key_decides_at cell t tiles (nat_eq t.key cell.key) refl
    (All-head (λ tile. tile.key ≡ cell.key → is_tile_of cell tile ≡ true) t tiles all)
    (key_decides cell tiles
    (All-tail (λ tile. tile.key ≡ cell.key → is_tile_of cell tile ≡ true) t tiles all))

answer_is : (key : ℕ) (old new : List CachedTile) (hit : Bool) → IsAsked key_in old key hit new
    → list_any (nat_eq key) (map key_in old) ≡ hit
answer_is key old new true asked = any_from_Contains (map key_in old) key asked.0
answer_is key old new false asked = none_from_absent (map key_in old) key asked.0

-- ---- one need

pub on_ok : {A E : Type 0} (r : Result A E) (P Q : Type 0) → (P → Q) → OnOk r P → OnOk r Q
on_ok (Ok x) P Q f p = f p
on_ok (Err e) P Q f p = tt

hits_of : (n : ℕ) (hit : Bool) → n ≤ max_count → (if hit then counted n else n)
    ≡ counted_together n (count_by (λ (h : Bool). h) (hit ∷ []))
hits_of n true low = refl
hits_of n false low = omega (arith, low)

-- a key that the microcache had
pub needs_hit : (files : Files) (key : ℕ) (old new : PassState)
    → IsAsked key_in old.pinned.recent key true new.pinned.recent → CountsNeed true old new
    → Needs files (key ∷ []) old new
needs_hit files key old new asked counts = record {
  answers = true ∷ [];
  asked = (new.pinned.recent, asked, refl);
  needs = counts.needs;
  hits = λ tells. counts.hits;
}

module _ (files : Files) (state : RecordState) (cell : CellAt) where
  map_all : (tiles : List CachedTile) → All (FitsCut files state.cut) tiles → IsTrue files.tells
      → IsRecord files state → IsCellOf state cell
      → All (λ tile. tile.key ≡ cell.key → is_tile_of cell tile ≡ true) tiles
  map_all [] all tells honest of = All-nil (λ tile. tile.key ≡ cell.key → is_tile_of cell tile ≡ true)
  map_all (t ∷ tiles) all tells honest of =
      All-cons (λ tile. tile.key ≡ cell.key → is_tile_of cell tile ≡ true) t tiles
      (λ same. told_is_tile files state cell t tells honest of same
      (All-head (FitsCut files state.cut) t tiles all))
      (map_all tiles (All-tail (FitsCut files state.cut) t tiles all) tells honest of)

  pub needs_one : (old mid new : PassState) (hit : Bool) → IsRecord files state
      → IsCellOf state cell → All (FitsCut files state.cut) old.pinned.recent
      → mid.pinned.recent ≡ old.pinned.recent → hit ≡ has_cell cell old.pinned.recent
      → old.hits ≤ max_count → CountsNeed hit old mid → SameCounts mid new
      → IsAskedFor cell.key mid.pinned.recent new.pinned.recent
      → Needs files (cell.key ∷ []) old new
  needs_one old mid new hit honest of fits same is low counts kept asked =
      let turned : IsAsked key_in old.pinned.recent cell.key asked.0 new.pinned.recent =
      subst (λ (tiles : List CachedTile).
      IsAsked key_in tiles cell.key asked.0 new.pinned.recent) same asked.1 in
      record {
        answers = asked.0 ∷ [];
        asked = (new.pinned.recent, turned, refl);
        needs = kept.needs ∙ counts.needs;
        hits = λ tells.
            let answer : hit ≡ asked.0 = is ∙ (key_decides cell old.pinned.recent
            (map_all old.pinned.recent fits tells honest of)
            ∙ answer_is cell.key old.pinned.recent new.pinned.recent asked.0 turned) in
            kept.hits ∙ (counts.hits ∙ (ap (λ (h : Bool). if h then counted old.hits else old.hits)
            answer ∙ hits_of old.hits asked.0 low));
      }

-- the cell of a texel was needed, and the microcache did not have it
pub needed_at : (files : Files) (state : RecordState) (at : TexelAt) (cell : CellAt)
    (old mid new : PassState) → IsRecord files state → IsCellAt state at cell
    → All (FitsCut files state.cut) old.pinned.recent → mid.pinned.recent ≡ old.pinned.recent
    → has_cell cell old.pinned.recent ≡ false → old.hits ≤ max_count → CountsNeed false old mid
    → SameCounts mid new → AsksFor cell.key mid.pinned.recent new.pinned.recent
    → IsAskedFor cell.key mid.pinned.recent new.pinned.recent → IsNeededAt files state at old new
needed_at files state at cell old mid new honest is fits same lacks low counts kept asks asked =
    record {
      asked = at_cell (λ key. AsksFor key old.pinned.recent new.pinned.recent) state at cell is.is
          (subst (λ (tiles : List CachedTile). AsksFor cell.key tiles new.pinned.recent) same asks);
      turned = at_cell (λ key. IsAskedFor key old.pinned.recent new.pinned.recent) state at cell
          is.is (subst (λ (tiles : List CachedTile).
          IsAskedFor cell.key tiles new.pinned.recent) same asked);
      needs = at_cell (λ key. Needs files (key ∷ []) old new) state at cell is.is
          (needs_one files state cell old mid new false honest is.of fits same (sym lacks) low counts
          kept asked);
    }
