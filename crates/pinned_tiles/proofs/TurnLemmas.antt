-- A tile that was asked for is first, and stays there if it is asked for again.
use Rattle.std.proofs.Common.{◌≡◌, ℕ, Bool, true, false, not, ◌&&◌, nat_eq, List, [], ◌∷◌, ◌++◌, map}
use Rattle.std.proofs.Common.{Some, None}
use Rattle.std.specs.Prelude.{slice_get}
use Rattle.std.proofs.Common.{refl, sym, ap, subst, ◌∙◌, arith}
use Rattle.std.specs.List.{list_any, filter}
use Rattle.std.proofs.lemmas.Bool.{eqb-true, eq-eqb, false≢true}
use Rattle.std.proofs.lemmas.Cmp.{nat_eq_equiv}
use Rattle.tile_store.specs.Tile.{CachedTile}
use Rattle.micro.specs.Items.{has_key, AreItems, HasKey, key_first}
use Rattle.micro.specs.Runs.{IsAsked}
use Rattle.micro.proofs.RecentLemmas.{flip}
use Rattle.micro.proofs.HitLemmas.{any_from_Contains}
use Rattle.micro.proofs.ItemLemmas.{two_items, two_apart, recent_again, first_found}
use Rattle.pinned_tiles.specs.declared.cell.CellAt.{CellAt}
use Rattle.pinned_tiles.specs.Pinned.{key_in, StaysAskedFor}
use Rattle.pinned_tiles.specs.Cell.{has_cell, is_tile_of, HasFirst, StandsFirst}

first_there : (key : ℕ) (t : CachedTile) (rest : List CachedTile) → nat_eq t.key key ≡ true
    → HasKey key_in key (t ∷ rest)
first_there key t rest is = (0, omega arith, eqb-true t.key key is)

stays : (key : ℕ) (tiles : List CachedTile) → AreItems key_in tiles → HasKey key_in key tiles
    → key_first key_in key tiles ≡ tiles → StaysAskedFor key tiles
stays key tiles are has same = record {
  there = has;
  moved = sym same;
  again = λ asked were. recent_again key_in asked key tiles tiles
      (ap (map key_in) (sym same)
      ∙ (first_found key_in key tiles are (any_from_Contains (map key_in tiles) key has)).keys)
      were;
}

-- what a turn to a cell leaves
pub record Turned (cell : CellAt) (tiles : List CachedTile) : Type 0 where
  pub first : StandsFirst cell tiles
  pub again : StaysAskedFor cell.key tiles

module _ (cell : CellAt) where
  turned_one : (a : CachedTile) (in_a : Bool) → nat_eq a.key cell.key ≡ in_a
      → AreItems key_in (a ∷ []) → has_cell cell (a ∷ []) ≡ true
      → Turned cell (key_first key_in cell.key (a ∷ []))
  turned_one a true is are has = rw is (record {
    first = (eqb-true a.key cell.key is, rw is at has);
    again = stays cell.key (a ∷ []) are (first_there cell.key a [] is) (rw is refl);
  })
  turned_one a false is are has = absurd (false≢true (rw is at has))

  turned_two : (a b : CachedTile) (in_a in_b : Bool) → nat_eq a.key cell.key ≡ in_a
      → nat_eq b.key cell.key ≡ in_b → AreItems key_in (a ∷ b ∷ [])
      → has_cell cell (a ∷ b ∷ []) ≡ true
      → Turned cell (key_first key_in cell.key (a ∷ b ∷ []))
  turned_two a b true true is_a is_b are has =
      absurd (false≢true (sym (two_apart key_in a b are)
      ∙ nat_eq_equiv.congr a.key cell.key b.key is_a
      ∙ nat_eq_equiv.symm cell.key b.key ∙ is_b))
  turned_two a b true false is_a is_b are has = rw (is_a, is_b) (record {
    first = (eqb-true a.key cell.key is_a, rw is_a at has);
    again = stays cell.key (a ∷ b ∷ []) are (first_there cell.key a (b ∷ []) is_a)
        (rw (is_a, is_b) refl);
  })
  turned_two a b false true is_a is_b are has = rw (is_a, is_b) (record {
    first = (eqb-true b.key cell.key is_b, rw (is_a, is_b) at has);
    again = stays cell.key (b ∷ a ∷ []) (two_items key_in b a
        (flip a.key b.key (two_apart key_in a b are))) (first_there cell.key b (a ∷ []) is_b)
        (rw (is_a, is_b) refl);
  })
  turned_two a b false false is_a is_b are has = absurd (false≢true (rw (is_a, is_b) at has))

  pub turned : (old : List CachedTile) → AreItems key_in old → has_cell cell old ≡ true
      → Turned cell (key_first key_in cell.key old)
  turned [] are has = absurd (false≢true has)
  turned (a ∷ []) are has = turned_one a (nat_eq a.key cell.key) refl are has
  turned (a ∷ b ∷ []) are has =
      turned_two a b (nat_eq a.key cell.key) (nat_eq b.key cell.key) refl refl are has
  turned (a ∷ b ∷ c ∷ rest) are has = let few = are.few in absurd (omega arith)

-- ---- the first tile

head_at : (key : ℕ) (t : CachedTile) (tiles behind : List CachedTile) (is : Bool)
    → nat_eq t.key key ≡ is
    → (list_any (nat_eq key) (map key_in tiles) ≡ true
    → HasFirst key (filter (has_key key_in key) tiles ++ behind))
    → list_any (nat_eq key) (map key_in (t ∷ tiles)) ≡ true
    → HasFirst key (filter (has_key key_in key) (t ∷ tiles) ++ behind)
head_at key t tiles behind true is later any = rw is (eqb-true t.key key is)
head_at key t tiles behind false is later any =
    rw is (later (rw (nat_eq_equiv.symm key t.key, is) at any))

head_of : (key : ℕ) (tiles behind : List CachedTile)
    → list_any (nat_eq key) (map key_in tiles) ≡ true
    → HasFirst key (filter (has_key key_in key) tiles ++ behind)
head_of key [] behind any = absurd (false≢true any)
head_of key (t ∷ tiles) behind any =
    head_at key t tiles behind (nat_eq t.key key) refl (head_of key tiles behind) any

pub first_found_there : (key : ℕ) (old new : List CachedTile) → HasKey key_in key old
    → new ≡ key_first key_in key old → HasFirst key new
first_found_there key old new has moved =
    subst (HasFirst key) (sym moved)
    (head_of key old (filter (λ t. not (has_key key_in key t)) old)
    (any_from_Contains (map key_in old) key has))

pub first_placed : (key : ℕ) (old new : List CachedTile) → IsAsked key_in old key false new
    → HasFirst key new
first_placed key old new asked =
    subst (HasFirst key) (sym asked.1.2) asked.1.1

-- if the cell's tile is first, the microcache has the cell
pub stands_has : (cell : CellAt) (tiles : List CachedTile) → StandsFirst cell tiles
    → has_cell cell tiles ≡ true
stands_has cell [] first = absurd first
stands_has cell (t ∷ tiles) first = rw (eq-eqb t.key cell.key first.0) first.1

-- the tile stays first if its key is asked for again
stays_two : (cell : CellAt) (a b : CachedTile) (in_b : Bool) → nat_eq a.key cell.key ≡ true
    → nat_eq b.key cell.key ≡ in_b → AreItems key_in (a ∷ b ∷ [])
    → StaysAskedFor cell.key (a ∷ b ∷ [])
stays_two cell a b true is_a is_b are = absurd (false≢true (sym (two_apart key_in a b are)
    ∙ nat_eq_equiv.congr a.key cell.key b.key is_a
    ∙ nat_eq_equiv.symm cell.key b.key ∙ is_b))
stays_two cell a b false is_a is_b are =
    stays cell.key (a ∷ b ∷ []) are (first_there cell.key a (b ∷ []) is_a)
    (rw (is_a, is_b) refl)

pub stands_stays : (cell : CellAt) (tiles : List CachedTile) → AreItems key_in tiles
    → StandsFirst cell tiles → StaysAskedFor cell.key tiles
stands_stays cell [] are first = absurd first
stands_stays cell (a ∷ []) are first =
    let is : nat_eq a.key cell.key ≡ true = eq-eqb a.key cell.key first.0 in
    stays cell.key (a ∷ []) are (first_there cell.key a [] is) (rw is refl)
stands_stays cell (a ∷ b ∷ []) are first =
    stays_two cell a b (nat_eq b.key cell.key) (eq-eqb a.key cell.key first.0) refl are
stands_stays cell (a ∷ b ∷ c ∷ rest) are first =
    let few = are.few in absurd (omega arith)

-- ---- the second tile

off : (t : Bool) → (t ≡ true → ⊥) → t ≡ false
off true not_so = absurd (not_so refl)
off false not_so = refl

-- a second tile, if the first is not the cell's
behind_by : (cell : CellAt) (a b : CachedTile) (in_a in_b : Bool) → nat_eq a.key cell.key ≡ in_a
    → nat_eq b.key cell.key ≡ in_b → AreItems key_in (a ∷ b ∷ [])
    → ¬ StandsFirst cell (a ∷ b ∷ [])
    → has_cell cell (a ∷ b ∷ []) ≡ (in_b && is_tile_of cell b)
behind_by cell a b true true is_a is_b are none = absurd (false≢true
    (sym (two_apart key_in a b are)
    ∙ nat_eq_equiv.congr a.key cell.key b.key is_a
    ∙ nat_eq_equiv.symm cell.key b.key ∙ is_b))
behind_by cell a b true false is_a is_b are none =
    rw is_a (off (is_tile_of cell a) (λ of. none (eqb-true a.key cell.key is_a, of)))
behind_by cell a b false true is_a is_b are none = rw (is_a, is_b) refl
behind_by cell a b false false is_a is_b are none = rw (is_a, is_b) refl

pub behind : (cell : CellAt) (tiles : List CachedTile) (b : CachedTile) → AreItems key_in tiles
    → ¬ StandsFirst cell tiles → slice_get tiles 1 ≡ Some b
    → has_cell cell tiles ≡ (nat_eq b.key cell.key && is_tile_of cell b)
behind cell [] b are none at = absurd cc
behind cell (a ∷ []) b are none at = absurd cc
behind cell (a ∷ c ∷ []) b are none at =
    subst (λ (t : CachedTile). has_cell cell (a ∷ c ∷ []) ≡ (nat_eq t.key cell.key && is_tile_of cell t))
    (some_same c b at)
    (behind_by cell a c (nat_eq a.key cell.key) (nat_eq c.key cell.key) refl refl are none)
  where
    some_same : (x y : CachedTile) → Some x ≡ Some y → x ≡ y
    some_same x y same = cc
behind cell (a ∷ c ∷ d ∷ rest) b are none at = let few = are.few in absurd (omega arith)

none_by : (cell : CellAt) (a : CachedTile) (in_a : Bool) → nat_eq a.key cell.key ≡ in_a
    → ¬ StandsFirst cell (a ∷ []) → has_cell cell (a ∷ []) ≡ false
none_by cell a true is none =
    rw is (off (is_tile_of cell a) (λ of. none (eqb-true a.key cell.key is, of)))
none_by cell a false is none = rw is refl

pub none_behind : (cell : CellAt) (tiles : List CachedTile) → ¬ StandsFirst cell tiles
    → slice_get tiles 1 ≡ None → has_cell cell tiles ≡ false
none_behind cell [] none at = refl
none_behind cell (a ∷ []) none at = none_by cell a (nat_eq a.key cell.key) refl none
none_behind cell (a ∷ c ∷ rest) none at = absurd cc

pub there_behind : (key : ℕ) (tiles : List CachedTile) (b : CachedTile)
    → slice_get tiles 1 ≡ Some b → b.key ≡ key → HasKey key_in key tiles
there_behind key [] b at is = absurd cc
there_behind key (a ∷ []) b at is = absurd cc
there_behind key (a ∷ c ∷ rest) b at is =
    let same : c ≡ b = cc in
    (1, omega arith, ap key_in same ∙ is)
