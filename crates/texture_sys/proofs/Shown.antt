-- What does a lookup leave that reads its texels in place and counts them together at the end?
use Rattle.std.proofs.Common.{◌≡◌, ℕ, ◌≤◌, Bool, true, false, refl, sym, ap, subst, ◌∙◌, inl, inr, arith}
use Rattle.std.proofs.Common.{List, [], ◌∷◌, length, Option, Some, None, Result, Ok, Err}
use Rattle.std.specs.Prelude.{IsOkAnd, IfOk, IfSome}
use Rattle.std.proofs.lemmas.List.Elements.{All-nil, All-cons, All-head, All-tail}
use Rattle.tex_world.specs.World.{Files}
use Rattle.tiff_format.specs.declared.fault.TiffFault.{TiffFault}
use Rattle.tile_layout.specs.Kept.{Kept}
use Rattle.tile_store.specs.Tile.{CachedTile}
use Rattle.file_table.specs.Record.{RecordState}
use Rattle.micro.specs.Items.{HasKey, key_first}
use Rattle.pinned_tiles.specs.declared.cell.CellAt.{CellAt}
use Rattle.pinned_tiles.specs.Pinned.{key_in}
use Rattle.pinned_tiles.specs.Cell.{has_cell}
use Rattle.texel_filter.specs.Image.{Texel}
use Rattle.texel_filter.specs.Calls.{EachAnswered, OneRefused}
use Rattle.texel_values.specs.declared.texel_at.TexelAt.{TexelAt}
use Rattle.tile_source.specs.Pass.{PassState, SameCounts, counted, counted_together}
use Rattle.tile_source.specs.Texel.{has_cell_at, has_cell_by, cell_of, IsCellIn}
use Rattle.tile_source.specs.Call.{CountsNeed, CountsHits, Needs}
use Rattle.image_cache.specs.Call.{turned_to}
use Rattle.image_cache.specs.Square.{IsShownAt}
use Rattle.image_cache.specs.Fetches.{at_of, AsksForCell}
use Rattle.tile_source.proofs.NeedLemmas.{needs_hit}
use Rattle.tile_source.proofs.TexelLemmas.{at_cell, asks_at}
use Rattle.image_cache.proofs.SquareLemmas.{has_at}
use Rattle.texture_sys.specs.Needs.{HasCell, HasCells, AsksForEach, AsksForCells}
use Rattle.texture_sys.specs.Fetches.{Walk, walk_of, ShowsTexel, LacksTexel}
use Rattle.texture_sys.proofs.Counted.{AreCounts, asks_cells}
use Rattle.texture_sys.proofs.MovedCells.{has_first}
use Rattle.texture_sys.proofs.Turns.{has_any, any_of_cell, there_any, asks_first, latest_turn}

-- the cell of a record that holds a texel
abbrev CellFor : RecordState → TexelAt → Type 0
CellFor state at = (cell : CellAt) × IsCellIn state at cell

cell_for : (state : RecordState) (at : TexelAt) (tiles : List CachedTile)
    → has_cell_at state at tiles ≡ true → CellFor state at
cell_for state at tiles has = by state.layout has
  where
    by : (layout : Result Kept TiffFault)
        → has_cell_by state.generation state.file state.cut at tiles layout ≡ true
        → (cell : CellAt) × IsOkAnd layout (λ kept.
        cell ≡ cell_of state.generation state.file state.cut kept at)
    by (Ok kept) is = (cell_of state.generation state.file state.cut kept at, refl)
    by (Err fault) is = absurd cc

latest_of : (state : RecordState) (at : TexelAt) (cell : CellAt) (latest : Option ℕ)
    → IsCellIn state at cell
    → IfOk state.layout (λ kept. latest ≡ Some (cell_of state.generation state.file state.cut kept at).key)
    → latest ≡ Some cell.key
latest_of state at cell latest is turned = by state.layout is turned
  where
    by : (layout : Result Kept TiffFault)
        → IsOkAnd layout (λ kept. cell ≡ cell_of state.generation state.file state.cut kept at)
        → IfOk layout (λ kept. latest
        ≡ Some (cell_of state.generation state.file state.cut kept at).key)
        → latest ≡ Some cell.key
    by (Ok kept) same here = here ∙ ap (λ (c : CellAt). Some c.key) (sym same)
    by (Err fault) same here = absurd same

-- a texel was read, and the microcache has its cell
pub shows_at : (state : RecordState) (old new : Walk) (texel : Texel) (key : ℕ)
    → IsShownAt state (at_of texel) old.pass.pinned.recent key → new.pass ≡ old.pass
    → new.reads ≡ counted old.reads → new.latest ≡ Some key → ShowsTexel state old texel new
shows_at state old new texel key shown same read is = record {
  had = shown.had;
  same = same;
  read = read;
  turned = by state.layout shown.keyed;
}
  where
    key_by : Kept → ℕ
    key_by kept = (cell_of state.generation state.file state.cut kept (at_of texel)).key

    by : (layout : Result Kept TiffFault) → IfOk layout (λ kept. key ≡ key_by kept)
        → IfOk layout (λ kept. new.latest ≡ Some (key_by kept))
    by (Ok kept) here = is ∙ ap (λ (k : ℕ). Some k) here
    by (Err fault) here = tt

-- the last cell that was read is in the microcache
abbrev IsThere : List CachedTile → Option ℕ → Type 0
IsThere tiles latest = IfSome latest (λ key. has_any key tiles ≡ true)

-- The pass as it would be, had it counted each texel when it was read and moved the cell to the
-- front.
pub record Stands (old : PassState) (walk : Walk) (pass : PassState) : Type 0 where
  pub needs : pass.needs ≡ counted_together old.needs walk.reads
  pub hits : pass.hits ≡ counted_together old.hits walk.reads
  pub apart : pass.apart ≡ old.apart
  pub recent : pass.pinned.recent ≡ turned_to walk.latest old.pinned.recent

module _ (files : Files) (state : RecordState) (old : PassState) where
  has_turned : (cell : CellAt) (latest : Option ℕ)
      → has_cell cell (turned_to latest old.pinned.recent) ≡ has_cell cell old.pinned.recent
  has_turned cell None = refl
  has_turned cell (Some key) = has_first cell key old.pinned.recent

  any_turned : (cell : CellAt) (latest : Option ℕ) → has_cell cell old.pinned.recent ≡ true
      → has_any cell.key (turned_to latest old.pinned.recent) ≡ true
  any_turned cell latest has =
      any_of_cell cell (turned_to latest old.pinned.recent) (has_turned cell latest ∙ has)

  turns_on : (cell : CellAt) (latest : Option ℕ) → length old.pinned.recent ≤ 2
      → has_cell cell old.pinned.recent ≡ true
      → key_first key_in cell.key (turned_to latest old.pinned.recent)
      ≡ key_first key_in cell.key old.pinned.recent
  turns_on cell None few has = refl
  turns_on cell (Some key) few has =
      latest_turn cell.key key old.pinned.recent few (any_of_cell cell old.pinned.recent has)

  -- the pass after the next texel is counted too
  abbrev next : PassState → ℕ → PassState
  next p key = record p {
    needs = counted p.needs;
    hits = counted p.hits;
    pinned = record p.pinned { recent = key_first key_in key p.pinned.recent };
  }

  module _ (few : length old.pinned.recent ≤ 2) where
    asks_next : (texel : Texel) (w : Walk) (p : PassState) (cell : CellAt) → Stands old w p
        → IsCellIn state (at_of texel) cell → has_cell cell old.pinned.recent ≡ true
        → AsksForCell files state texel p (next p cell.key)
    asks_next texel w p cell stands is has =
        let there : has_cell cell p.pinned.recent ≡ true =
        ap (λ (tiles : List CachedTile). has_cell cell tiles) stands.recent
        ∙ has_turned cell w.latest ∙ has in
        let any = any_of_cell cell p.pinned.recent there in
        let need : CountsNeed true p (next p cell.key) = record { needs = refl; hits = refl } in
        record {
          need = subst (λ (hit : Bool). CountsNeed hit p (next p cell.key))
              (sym (has_at state (at_of texel) cell p.pinned.recent is ∙ there)) need;
          apart = record { later = omega arith; either = inl refl };
          asked = λ none. asks_at state (at_of texel) cell p.pinned.recent
              (key_first key_in cell.key p.pinned.recent) is
              (asks_first cell.key p.pinned.recent any);
          needs = λ none. at_cell (λ key. Needs files (key ∷ []) p (next p cell.key)) state
              (at_of texel) cell is (needs_hit files cell.key p (next p cell.key)
              (there_any cell.key p.pinned.recent any, refl) need);
        }

    stands_next : (texel : Texel) (w v : Walk) (p : PassState) (cell : CellAt) → Stands old w p
        → ShowsTexel state w texel v → IsCellIn state (at_of texel) cell
        → has_cell cell old.pinned.recent ≡ true → Stands old v (next p cell.key)
    stands_next texel w v p cell stands shows is has = record {
      needs = omega (arith, stands.needs, shows.read);
      hits = omega (arith, stands.hits, shows.read);
      apart = stands.apart;
      recent = ap (key_first key_in cell.key) stands.recent ∙ turns_on cell w.latest few has
          ∙ ap (λ (l : Option ℕ). turned_to l old.pinned.recent)
          (sym (latest_of state (at_of texel) cell v.latest is shows.turned));
    }

    stands_same : (w v : Walk) (p q : PassState) → v ≡ w → Stands old w p → Stands old v q
        → SameCounts p q × (q.pinned.recent ≡ p.pinned.recent)
    stands_same w v p q same one other =
        let reads : v.reads ≡ w.reads = ap (λ (x : Walk). x.reads) same in
        let latest : v.latest ≡ w.latest = ap (λ (x : Walk). x.latest) same in (
          record {
            needs = omega (arith, one.needs, other.needs, reads);
            hits = omega (arith, one.hits, other.hits, reads);
            apart = other.apart ∙ sym one.apart;
          },
          other.recent ∙ ap (λ (l : Option ℕ). turned_to l old.pinned.recent) latest
              ∙ sym one.recent,
        )

    shown_each : (texels : List Texel) (w v : Walk) (p q : PassState) → w.pass ≡ old
        → Stands old w p → Stands old v q → EachAnswered (ShowsTexel state) w texels v
        → AsksForEach files state texels p q
    shown_each [] w v p q of one other is = stands_same w v p q is one other
    shown_each (t ∷ texels) w v p q of one other (mid, first, rest) =
        let had : has_cell_at state (at_of t) old.pinned.recent ≡ true =
        subst (λ (x : PassState). has_cell_at state (at_of t) x.pinned.recent ≡ true) of first.had in
        let found = cell_for state (at_of t) old.pinned.recent had in
        let has : has_cell found.0 old.pinned.recent ≡ true =
        sym (has_at state (at_of t) found.0 old.pinned.recent found.1) ∙ had in (
          next p found.0.key,
          asks_next t w p found.0 one found.1 has,
          shown_each texels mid v (next p found.0.key) q (first.same ∙ of)
              (stands_next t w mid p found.0 one first found.1 has) other rest,
        )

    -- what such a lookup leaves after its needs are counted together
    pub shown_asks : (texels : List Texel) (v : Walk) (q : PassState) → AreCounts old
        → EachAnswered (ShowsTexel state) (walk_of old 0 None) texels v
        → CountsHits v.reads old q → q.pinned.recent ≡ turned_to v.latest old.pinned.recent
        → AsksForCells files state texels old q
    shown_asks texels v q are each counts recent =
        let begun : Stands old (walk_of old 0 None) old = record {
          needs = omega (arith, are.needs);
          hits = omega (arith, are.hits);
          apart = refl;
          recent = refl;
        } in
        asks_cells files state texels old q are (shown_each texels (walk_of old 0 None) v old q refl
        begun (record {
          needs = counts.needs_counted;
          hits = counts.hits_counted;
          apart = counts.apart;
          recent = recent;
        }) each)

  -- ---- which cells are in the microcache

  -- the last cell that was read is there
  latest_there : (texels : List Texel) (w v : Walk) → w.pass ≡ old
      → IsThere old.pinned.recent w.latest → EachAnswered (ShowsTexel state) w texels v
      → IsThere old.pinned.recent v.latest
  latest_there [] w v of there is =
      subst (IsThere old.pinned.recent) (sym (ap (λ (x : Walk). x.latest) is)) there
  latest_there (t ∷ texels) w v of there (mid, first, rest) =
      let had : has_cell_at state (at_of t) old.pinned.recent ≡ true =
      subst (λ (x : PassState). has_cell_at state (at_of t) x.pinned.recent ≡ true) of first.had in
      let found = cell_for state (at_of t) old.pinned.recent had in
      let any = any_of_cell found.0 old.pinned.recent
      (sym (has_at state (at_of t) found.0 old.pinned.recent found.1) ∙ had) in
      latest_there texels mid v (first.same ∙ of)
      (subst (IsThere old.pinned.recent)
      (sym (latest_of state (at_of t) found.0 mid.latest found.1 first.turned)) any) rest

  key_there : (latest : Option ℕ) → IsThere old.pinned.recent latest
      → IfSome latest (λ key. HasKey key_in key old.pinned.recent)
  key_there None there = tt
  key_there (Some key) there = there_any key old.pinned.recent there

  pub shown_there : (texels : List Texel) (v : Walk)
      → EachAnswered (ShowsTexel state) (walk_of old 0 None) texels v
      → IfSome v.latest (λ key. HasKey key_in key old.pinned.recent)
  shown_there texels v each =
      key_there v.latest (latest_there texels (walk_of old 0 None) v refl tt each)

  pub cells_each : (texels : List Texel) (w v : Walk) → w.pass ≡ old
      → EachAnswered (ShowsTexel state) w texels v → HasCells state old.pinned.recent texels
  cells_each [] w v of is = All-nil (HasCell state old.pinned.recent)
  cells_each (t ∷ texels) w v of (mid, first, rest) =
      All-cons (HasCell state old.pinned.recent) t texels
      (subst (λ (x : PassState). has_cell_at state (at_of t) x.pinned.recent ≡ true) of first.had)
      (cells_each texels mid v (first.same ∙ of) rest)

  module _ {E : Type 0} where
    pub cells_none : (texels : List Texel) (w v : Walk) (e : E) → w.pass ≡ old
        → HasCells state old.pinned.recent texels
        → OneRefused (ShowsTexel state) (LacksTexel state) w texels e v → ⊥
    cells_none [] w v e of has none = none
    cells_none (t ∷ texels) w v e of has (inl is) =
        let lacks = subst (λ (x : PassState). has_cell_at state (at_of t) x.pinned.recent ≡ false) of
        is.lacks in
        cc (All-head (HasCell state old.pinned.recent) t texels has, lacks)
    cells_none (t ∷ texels) w v e of has (inr (mid, first, rest)) =
        cells_none texels mid v e (first.same ∙ of)
        (All-tail (HasCell state old.pinned.recent) t texels has) rest

-- ---- in terms of the fetch of a lookup

-- the pass does not change
pass_stays : (state : RecordState) (texels : List Texel) (w v : Walk)
    → EachAnswered (ShowsTexel state) w texels v → v.pass ≡ w.pass
pass_stays state [] w v is = ap (λ (x : Walk). x.pass) is
pass_stays state (t ∷ texels) w v (mid, first, rest) =
    pass_stays state texels mid v rest ∙ first.same

pub with_pass : (state : RecordState) (texels : List Texel) (w v : Walk)
    → EachAnswered (ShowsTexel state) w texels v
    → EachAnswered (ShowsTexel state) w texels (walk_of w.pass v.reads v.latest)
with_pass state texels w v each =
    subst (λ (p : PassState). EachAnswered (ShowsTexel state) w texels (walk_of p v.reads v.latest))
    (pass_stays state texels w v each) each

pub each_walked : {S : Type 0} (b a : S) (texels : List Texel) (leaves : S → Texel → S → Type 0)
    → EachAnswered leaves a texels b → (k : S → RecordState) (w : S → Walk)
    → ((a b : S) (t : Texel) → leaves a t b → (k b ≡ k a) × ShowsTexel (k a) (w a) t (w b))
    → EachAnswered (ShowsTexel (k a)) (w a) texels (w b)
each_walked b a [] leaves is k w kept = ap w is
each_walked b a (t ∷ texels) leaves (mid, first, rest) k w kept =
    let here = kept a mid t first in (
      w mid,
      here.1,
      subst (λ (x : RecordState). EachAnswered (ShowsTexel x) (w mid) texels (w b)) here.0
          (each_walked b mid texels leaves rest k w kept),
    )

pub one_walked : {S E : Type 0} (b a : S) (texels : List Texel) (e : E)
    (leaves : S → Texel → S → Type 0) (declines : S → Texel → E → S → Type 0)
    → OneRefused leaves declines a texels e b → (k : S → RecordState) (w : S → Walk)
    → ((a b : S) (t : Texel) → leaves a t b → (k b ≡ k a) × ShowsTexel (k a) (w a) t (w b))
    → ((a b : S) (t : Texel) (e : E) → declines a t e b
    → (k b ≡ k a) × LacksTexel (k a) (w a) t e (w b))
    → OneRefused (ShowsTexel (k a)) (LacksTexel (k a)) (w a) texels e (w b)
one_walked b a [] e leaves declines none k w kept refused = none
one_walked b a (t ∷ texels) e leaves declines (inl is) k w kept refused =
    inl (refused a b t e is).1
one_walked b a (t ∷ texels) e leaves declines (inr (mid, first, rest)) k w kept refused =
    let here = kept a mid t first in
    inr (
      w mid,
      here.1,
      subst (λ (x : RecordState). OneRefused (ShowsTexel x) (LacksTexel x) (w mid) texels e (w b))
          here.0 (one_walked b mid texels e leaves declines rest k w kept refused),
    )

-- counting four reads together equals counting them one by one
pub four_reads : (n m : ℕ) → m ≡ counted_together n 4
    → m ≡ counted (counted (counted (counted n)))
four_reads n m is = omega (arith, is)
