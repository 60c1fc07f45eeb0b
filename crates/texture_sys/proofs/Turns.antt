-- Which tiles does a microcache have after asking for cells that are all there?
use Rattle.std.proofs.Common.{◌≡◌, ◌⊎◌, ℕ, Bool, true, false, cond, not, nat_eq, ◌≤◌}
use Rattle.std.proofs.Common.{List, [], ◌∷◌, ◌++◌, map, take, length, refl, sym, ap, subst, ◌∙◌}
use Rattle.std.proofs.Common.{inl, inr, arith}
use Rattle.std.specs.List.{filter, list_any}
use Rattle.std.proofs.lemmas.Bool.{false≢true}
use Rattle.std.proofs.lemmas.Bool.Decides.{Decides-eqb}
use Rattle.std.proofs.lemmas.Cmp.{nat_eq_equiv}
use Rattle.std.proofs.lemmas.Map.Made.{is_member-Decides}
use Rattle.tile_store.specs.Tile.{CachedTile}
use Rattle.micro.specs.Items.{AreItems, HasKey, key_first}
use Rattle.micro.specs.Recent.{recent, AreRecent}
use Rattle.micro.proofs.RecentLemmas.{flip, is_other, recent-none, recent-push}
use Rattle.micro.proofs.ItemLemmas.{no_items, one_item, two_items, recent_again, first_found}
use Rattle.pinned_tiles.specs.declared.cell.CellAt.{CellAt}
use Rattle.pinned_tiles.specs.Pinned.{key_in, AsksFor}
use Rattle.pinned_tiles.specs.Cell.{has_cell}

-- one of the tiles has the key
abbrev pub has_any : ℕ → List CachedTile → Bool
has_any key tiles = list_any (nat_eq key) (map key_in tiles)

pub there_any : (key : ℕ) (tiles : List CachedTile) → has_any key tiles ≡ true
    → HasKey key_in key tiles
there_any key tiles any = (is_member-Decides Decides-eqb (map key_in tiles) key).0 any

any_step : (cell : CellAt) (t : CachedTile) (tiles : List CachedTile) (is : Bool)
    → nat_eq t.key cell.key ≡ is
    → (has_cell cell tiles ≡ true → has_any cell.key tiles ≡ true)
    → has_cell cell (t ∷ tiles) ≡ true → has_any cell.key (t ∷ tiles) ≡ true
any_step cell t tiles true is later has = rw (nat_eq_equiv.symm cell.key t.key, is) refl
any_step cell t tiles false is later has =
    rw (nat_eq_equiv.symm cell.key t.key, is) (later (rw is at has))

-- a tile with the key is there if the microcache has a cell with it
pub any_of_cell : (cell : CellAt) (tiles : List CachedTile) → has_cell cell tiles ≡ true
    → has_any cell.key tiles ≡ true
any_of_cell cell [] has = absurd (false≢true has)
any_of_cell cell (t ∷ tiles) has =
    any_step cell t tiles (nat_eq t.key cell.key) refl (any_of_cell cell tiles) has

-- ---- the last two keys differ

-- the last key and the last different one are read off a list
abbrev IsPushed : List ℕ → Type 0
IsPushed asked = (x : ℕ) × ((ys : List ℕ) × (recent asked ≡ x ∷ take 1 (filter (is_other x) ys)))

-- the list has a last element
abbrev IsEnded : List ℕ → Type 0
IsEnded xs = (init : List ℕ) × ((x : ℕ) × (xs ≡ init ++ x ∷ []))

ended : (xs : List ℕ) → (xs ≡ []) ⊎ IsEnded xs
ended [] = inl refl
ended (x ∷ xs) = by (ended xs)
  where
    by : (xs ≡ []) ⊎ IsEnded xs → (x ∷ xs ≡ []) ⊎ IsEnded (x ∷ xs)
    by (inl is) = inr ([], (x, ap (λ l. x ∷ l) is))
    by (inr (init, (y, is))) = inr (x ∷ init, (y, ap (λ l. x ∷ l) is))

pushed : (asked : List ℕ) → (recent asked ≡ []) ⊎ IsPushed asked
pushed asked = by (ended asked)
  where
    by : (asked ≡ []) ⊎ IsEnded asked → (recent asked ≡ []) ⊎ IsPushed asked
    by (inl is) = inl (ap recent is ∙ recent-none)
    by (inr (init, (x, is))) = inr (x, (recent init, ap recent is ∙ recent-push init x))

pass_step : (p : ℕ → Bool) (y b : ℕ) (rest : List ℕ) (has : Bool) → p y ≡ has
    → (take 1 rest ≡ b ∷ [] → p b ≡ true) → take 1 (cond has (y ∷ rest) rest) ≡ b ∷ []
    → p b ≡ true
pass_step p y b rest true has later same =
    let head : y ≡ b = cc same in
    subst (λ (k : ℕ). p k ≡ true) head has
pass_step p y b rest false has later same = later same

passes : (p : ℕ → Bool) (ys : List ℕ) (b : ℕ) → take 1 (filter p ys) ≡ b ∷ [] → p b ≡ true
passes p [] b is = absurd cc
passes p (y ∷ ys) b is = pass_step p y b (filter p ys) (p y) refl (passes p ys b) is

other_apart : (a b : ℕ) (same : Bool) → nat_eq b a ≡ same → not same ≡ true → nat_eq b a ≡ false
other_apart a b true is off = absurd (false≢true off)
other_apart a b false is off = is

two_of : (asked : List ℕ) (a b : ℕ) → recent asked ≡ a ∷ b ∷ [] → nat_eq a b ≡ false
two_of asked a b are = by (pushed asked)
  where
    by : (recent asked ≡ []) ⊎ IsPushed asked → nat_eq a b ≡ false
    by (inl none) = absurd (cc (none, are))
    by (inr (x, (ys, is))) =
        let both : x ∷ take 1 (filter (is_other x) ys) ≡ a ∷ b ∷ [] = sym is ∙ are in
        let head : x ≡ a = cc both in
        let tail : take 1 (filter (is_other x) ys) ≡ b ∷ [] = cc both in
        let off : not (nat_eq b a) ≡ true =
        subst (λ (k : ℕ). not (nat_eq b k) ≡ true) head (passes (is_other x) ys b tail) in
        flip b a (other_apart a b (nat_eq b a) refl off)

not_three : (ys rest : List ℕ) (b c : ℕ) → take 1 ys ≡ b ∷ c ∷ rest → ⊥
not_three [] rest b c is = cc
not_three (y ∷ ys) rest b c is = cc

three_of : (asked rest : List ℕ) (a b c : ℕ) → recent asked ≡ a ∷ b ∷ c ∷ rest → ⊥
three_of asked rest a b c are = by (pushed asked)
  where
    by : (recent asked ≡ []) ⊎ IsPushed asked → ⊥
    by (inl none) = cc (none, are)
    by (inr (x, (ys, is))) =
        let both : x ∷ take 1 (filter (is_other x) ys) ≡ a ∷ b ∷ c ∷ rest = sym is ∙ are in
        let tail : take 1 (filter (is_other x) ys) ≡ b ∷ c ∷ rest = cc both in
        not_three (filter (is_other x) ys) rest b c tail

are_two : (asked : List ℕ) (tiles : List CachedTile) → AreRecent key_in asked tiles
    → AreItems key_in tiles
are_two asked [] were = no_items key_in
are_two asked (a ∷ []) were = one_item key_in a
are_two asked (a ∷ b ∷ []) were = two_items key_in a b (two_of asked a.key b.key (sym were))
are_two asked (a ∷ b ∷ c ∷ rest) were =
    absurd (three_of asked (map key_in rest) a.key b.key c.key (sym were))

-- a key that is there was asked for, after its tile moved to the front
pub asks_first : (key : ℕ) (tiles : List CachedTile) → has_any key tiles ≡ true
    → AsksFor key tiles (key_first key_in key tiles)
asks_first key tiles any = λ asked were.
    recent_again key_in asked key tiles (key_first key_in key tiles)
    (first_found key_in key tiles (are_two asked tiles were) any).keys were

-- ---- only the last move matters

module _ (k l : ℕ) where
  none_here : (a : CachedTile) → nat_eq a.key k ≡ false → has_any k (a ∷ []) ≡ true → ⊥
  none_here a is any = false≢true (rw (flip a.key k is) at any)

  one_turn : (a : CachedTile) (la : Bool) → nat_eq a.key l ≡ la
      → key_first key_in k (key_first key_in l (a ∷ [])) ≡ key_first key_in k (a ∷ [])
  one_turn a true is = rw is refl
  one_turn a false is = rw is refl

  none_of_two : (a b : CachedTile) → nat_eq a.key k ≡ false → nat_eq b.key k ≡ false
      → has_any k (a ∷ b ∷ []) ≡ true → ⊥
  none_of_two a b is_a is_b any = false≢true (rw (flip a.key k is_a, flip b.key k is_b) at any)

  turned_back : (a b : CachedTile) (ka kb : Bool) → nat_eq a.key k ≡ ka → nat_eq b.key k ≡ kb
      → nat_eq a.key l ≡ false → nat_eq b.key l ≡ true → has_any k (a ∷ b ∷ []) ≡ true
      → key_first key_in k (b ∷ a ∷ []) ≡ key_first key_in k (a ∷ b ∷ [])
  turned_back a b true true is_a is_b la lb any =
      let alike = nat_eq_equiv.congr a.key k b.key is_a in
      absurd (false≢true (sym la ∙ nat_eq_equiv.congr a.key b.key l
      (alike ∙ nat_eq_equiv.symm k b.key ∙ is_b) ∙ lb))
  turned_back a b true false is_a is_b la lb any = rw (is_a, is_b) refl
  turned_back a b false true is_a is_b la lb any = rw (is_a, is_b) refl
  turned_back a b false false is_a is_b la lb any = absurd (none_of_two a b is_a is_b any)

  two_turns : (a b : CachedTile) (la lb : Bool) → nat_eq a.key l ≡ la → nat_eq b.key l ≡ lb
      → has_any k (a ∷ b ∷ []) ≡ true
      → key_first key_in k (key_first key_in l (a ∷ b ∷ []))
      ≡ key_first key_in k (a ∷ b ∷ [])
  two_turns a b true true is_a is_b any = rw (is_a, is_b) refl
  two_turns a b true false is_a is_b any = rw (is_a, is_b) refl
  two_turns a b false true is_a is_b any = rw (is_a, is_b)
      (turned_back a b (nat_eq a.key k) (nat_eq b.key k) refl refl is_a is_b any)
  two_turns a b false false is_a is_b any = rw (is_a, is_b) refl

  pub latest_turn : (tiles : List CachedTile) → length tiles ≤ 2 → has_any k tiles ≡ true
      → key_first key_in k (key_first key_in l tiles) ≡ key_first key_in k tiles
  latest_turn [] few any = refl
  latest_turn (a ∷ []) few any = one_turn a (nat_eq a.key l) refl
  latest_turn (a ∷ b ∷ []) few any =
      two_turns a b (nat_eq a.key l) (nat_eq b.key l) refl refl any
  latest_turn (a ∷ b ∷ c ∷ rest) few any = absurd (omega (arith, few))
