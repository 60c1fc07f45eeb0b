-- Which items, with which keys, are left by a find and by a placing.
use Rattle.std.proofs.Common.{◌≡◌, ℕ, Bool, true, false, ◌||◌, nat_eq, List, [], ◌∷◌, ◌++◌}
use Rattle.std.proofs.Common.{take, map, refl, sym, ap, ◌∙◌, arith}
use Rattle.std.specs.List.{IsDistinct, filter, list_any}
use Rattle.std.proofs.lemmas.Bool.{eqb-true, false≢true, or_parts}
use Rattle.std.proofs.lemmas.Cmp.{nat_eq_equiv}
use Rattle.micro.specs.Items.{AreItems, key_first, placed}
use Rattle.micro.specs.Recent.{AreRecent}
use Rattle.micro.proofs.RecentLemmas.{flip, is_other, recent-none, recent-push}

module _ {P : Type 0} (key_of : P → ℕ) where
  pub no_items : AreItems key_of []
  unfolding IsDistinct
  no_items = record { few = omega arith; distinct = tt }

  pub one_item : (p : P) → AreItems key_of (p ∷ [])
  unfolding IsDistinct
  one_item p = record { few = omega arith; distinct = (tt, tt) }

  pub two_items : (p q : P) → nat_eq (key_of p) (key_of q) ≡ false → AreItems key_of (p ∷ q ∷ [])
  unfolding IsDistinct
  two_items p q apart = record { few = omega arith; distinct = ((apart, tt), (tt, tt)) }

  pub two_apart : (p q : P) → AreItems key_of (p ∷ q ∷ []) → nat_eq (key_of p) (key_of q) ≡ false
  unfolding IsDistinct
  two_apart p q are = are.distinct.0.0

  -- the keys that follow, if one of these keys is now first
  abbrev pub keys_behind : ℕ → List P → List ℕ
  keys_behind key items = key ∷ take 1 (filter (is_other key) (map key_of items))

  -- items with these keys are of the latest two keys again
  pub recent_again : (asked : List ℕ) (key : ℕ) (old new : List P)
      → map key_of new ≡ keys_behind key old → AreRecent key_of asked old → AreRecent key_of (asked ++ key ∷ []) new
  recent_again asked key old new keys were =
      keys ∙ ap (λ ks. key ∷ take 1 (filter (is_other key) ks)) were ∙ sym (recent-push asked key)

  pub recent_none : AreRecent key_of [] []
  recent_none = sym recent-none

  -- ---- an item found

  pub record IsFirst (key : ℕ) (items : List P) : Type 0 where
    pub are : AreItems key_of (key_first key_of key items)
    pub keys : map key_of (key_first key_of key items) ≡ keys_behind key items

  first_of_two : (key : ℕ) (a b : P) (in_a in_b : Bool) → nat_eq (key_of a) key ≡ in_a
      → nat_eq (key_of b) key ≡ in_b → nat_eq (key_of a) (key_of b) ≡ false
      → (nat_eq key (key_of a) || (nat_eq key (key_of b) || false)) ≡ true → IsFirst key (a ∷ b ∷ [])
  first_of_two key a b true true is_a is_b apart any =
      absurd (false≢true (sym apart ∙ nat_eq_equiv.congr (key_of a) key (key_of b) is_a
      ∙ nat_eq_equiv.symm key (key_of b) ∙ is_b))
  first_of_two key a b true false is_a is_b apart any = record {
    are = rw (is_a, is_b) (two_items a b apart);
    keys = rw (is_a, is_b) (ap (λ k. k ∷ key_of b ∷ []) (eqb-true (key_of a) key is_a));
  }
  first_of_two key a b false true is_a is_b apart any = record {
    are = rw (is_a, is_b) (two_items b a (flip (key_of a) (key_of b) apart));
    keys = rw (is_a, is_b) (ap (λ k. k ∷ key_of a ∷ []) (eqb-true (key_of b) key is_b));
  }
  first_of_two key a b false false is_a is_b apart any =
      absurd (false≢true (rw (flip (key_of a) key is_a, flip (key_of b) key is_b) at any))

  first_of_one : (key : ℕ) (a : P) (in_a : Bool) → nat_eq (key_of a) key ≡ in_a
      → (nat_eq key (key_of a) || false) ≡ true → IsFirst key (a ∷ [])
  first_of_one key a true is_a any = record {
    are = rw is_a (one_item a);
    keys = rw is_a (ap (λ k. k ∷ []) (eqb-true (key_of a) key is_a));
  }
  first_of_one key a false is_a any = absurd (false≢true (rw (flip (key_of a) key is_a) at any))

  pub first_found : (key : ℕ) (items : List P) → AreItems key_of items
      → list_any (nat_eq key) (map key_of items) ≡ true → IsFirst key items
  first_found key [] are any = absurd cc
  first_found key (a ∷ []) are any = first_of_one key a (nat_eq (key_of a) key) refl any
  first_found key (a ∷ b ∷ []) are any =
      first_of_two key a b (nat_eq (key_of a) key) (nat_eq (key_of b) key) refl refl
      (two_apart a b are) any
  first_found key (a ∷ b ∷ c ∷ items) are any = let few = are.few in absurd (omega arith)

  -- ---- an item placed

  pub record IsPlaced (p : P) (items : List P) : Type 0 where
    pub are : AreItems key_of (placed p items)
    pub keys : map key_of (placed p items) ≡ keys_behind (key_of p) items

  pub placed_new : (p : P) (items : List P)
      → list_any (nat_eq (key_of p)) (map key_of items) ≡ false → IsPlaced p items
  placed_new p [] absent = record { are = one_item p; keys = refl }
  placed_new p (a ∷ items) absent =
      let other : nat_eq (key_of p) (key_of a) ≡ false =
      (or_parts (nat_eq (key_of p) (key_of a)) (list_any (nat_eq (key_of p)) (map key_of items)) absent).0 in
      record { are = two_items p a other; keys = rw (flip (key_of p) (key_of a) other) refl }
