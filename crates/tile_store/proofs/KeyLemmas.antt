-- Which slot has a key after a slot gets one or loses its own?
use Rattle.std.proofs.Common.{◌≡◌, ◌≢◌, ℕ, zero, suc, ◌<◌, ◌≤◌, ◌⊎◌, true, false, cond, nat_eq}
use Rattle.std.proofs.Common.{List, [], ◌∷◌, length, set, Option, Some, None, option_map}
use Rattle.std.proofs.Common.{refl, sym, ap, ◌∙◌, subst, inl, inr, ⊎_elim, arith}
use Rattle.std.proofs.lemmas.Bool.{eq-eqb, eqb-true, eqb-false, cases_eq, cases_lt, false≢true}
use Rattle.std.proofs.lemmas.Grind.{get_or-set_at}
use Rattle.std.proofs.lemmas.List.{get_or-set_other, get_or_past}
use Rattle.tile_store.specs.Keys.{key_in, is_key, slot_of, AreApart}

pub is_key_true : (key : ℕ) (o : Option ℕ) → is_key key o ≡ true → o ≡ Some key
is_key_true key None h = absurd (false≢true h)
is_key_true key (Some k) h = ap Some (sym (eqb-true key k h))

pub is_key_same : (key : ℕ) (o : Option ℕ) → o ≡ Some key → is_key key o ≡ true
is_key_same key o is = ap (is_key key) is ∙ eq-eqb key key refl

map_none : (o : Option ℕ) → option_map suc o ≡ None → o ≡ None
map_none None h = refl
map_none (Some p) h = absurd cc

-- a slot with a key is one of the slots
pub low_key : (keys : List (Option ℕ)) (p key : ℕ) → key_in keys p ≡ Some key → p < length keys
low_key keys p key has =
    ⊎_elim (λ low. low) (λ (past : length keys ≤ p).
    let none : None ≡ Some key = sym (get_or_past keys p None past) ∙ has in
    absurd cc)
    (cases_lt p (length keys))

-- ---- the slot that has a key

pub slot_has : (key : ℕ) (keys : List (Option ℕ)) (p : ℕ) → slot_of key keys ≡ Some p
    → key_in keys p ≡ Some key
slot_has key [] p h = absurd cc
slot_has key (k ∷ ks) p h =
    (elim (is_key key k) as (λ b. is_key key k ≡ b
    → cond b (Some zero) (option_map suc (slot_of key ks)) ≡ Some p → key_in (k ∷ ks) p ≡ Some key) [
      | true ↦ λ t s.
          let first : zero ≡ p = cc in
          subst (λ q. key_in (k ∷ ks) q ≡ Some key) first (is_key_true key k t)
      | false ↦ λ t s.
          (elim (slot_of key ks) as (λ o. slot_of key ks ≡ o → option_map suc o ≡ Some p
          → key_in (k ∷ ks) p ≡ Some key) [
            | None ↦ λ _ none. absurd cc
            | Some q ↦ λ is some.
                let next : suc q ≡ p = cc in
                subst (λ r. key_in (k ∷ ks) r ≡ Some key) next (slot_has key ks q is)
          ]) refl s
    ]) refl h

-- the only slot that has it
pub slot_is : (key : ℕ) (keys : List (Option ℕ)) (p : ℕ) → key_in keys p ≡ Some key
    → ((q : ℕ) → key_in keys q ≡ Some key → q ≡ p) → slot_of key keys ≡ Some p
slot_is key [] p has one = absurd cc
slot_is key (k ∷ ks) zero has one = rw (is_key_same key k has) refl
slot_is key (k ∷ ks) (suc p) has one =
    (elim (is_key key k) as (λ b. is_key key k ≡ b
    → cond b (Some zero) (option_map suc (slot_of key ks)) ≡ Some (suc p)) [
      | true ↦ λ t. let first : zero ≡ suc p = one zero (is_key_true key k t) in absurd (omega arith)
      | false ↦ λ _. ap (option_map suc) (slot_is key ks p has (λ q h.
          let next : suc q ≡ suc p = one (suc q) h in
          omega arith))
    ]) refl

pub no_slot : (key : ℕ) (keys : List (Option ℕ)) → ((q : ℕ) → key_in keys q ≡ Some key → ⊥)
    → slot_of key keys ≡ None
no_slot key [] none = refl
no_slot key (k ∷ ks) none =
    (elim (is_key key k) as (λ b. is_key key k ≡ b
    → cond b (Some zero) (option_map suc (slot_of key ks)) ≡ None) [
      | true ↦ λ t. absurd (none zero (is_key_true key k t))
      | false ↦ λ _. ap (option_map suc) (no_slot key ks (λ q h. none (suc q) h))
    ]) refl

pub none_has : (key : ℕ) (keys : List (Option ℕ)) (q : ℕ) → slot_of key keys ≡ None
    → key_in keys q ≡ Some key → ⊥
none_has key [] q none has = absurd cc
none_has key (k ∷ ks) zero none has =
    let found : slot_of key (k ∷ ks) ≡ Some zero = rw (is_key_same key k has) refl in
    let both : None ≡ Some zero = sym none ∙ found in
    absurd cc
none_has key (k ∷ ks) (suc q) none has =
    (elim (is_key key k) as (λ b. cond b (Some zero) (option_map suc (slot_of key ks)) ≡ None → ⊥) [
      | true ↦ λ some. absurd cc
      | false ↦ λ more. none_has key ks q (map_none (slot_of key ks) more) has
    ]) none

-- a key that no slot has
pub take_none : (key k : ℕ) (keys : List (Option ℕ)) → slot_of key keys ≡ None
    → slot_of k keys ≡ cond (nat_eq key k) None (slot_of k keys)
take_none key k keys none =
    (elim (nat_eq key k) as (λ b. nat_eq key k ≡ b → slot_of k keys ≡ cond b None (slot_of k keys)) [
      | true ↦ λ same. ap (λ j. slot_of j keys) (sym (eqb-true key k same)) ∙ none
      | false ↦ λ _. refl
    ]) refl

module _ (keys : List (Option ℕ)) (apart : AreApart keys) where
  pub slot_by : (key p : ℕ) → key_in keys p ≡ Some key → slot_of key keys ≡ Some p
  slot_by key p has = slot_is key keys p has (λ q h. apart q p key h has)

  -- ---- a slot gets a key
  module _ (key slot : ℕ) (missing : slot_of key keys ≡ None) (low : slot < length keys) where
    abbrev new : List (Option ℕ)
    new = set keys slot (Some key)

    pub put_at : key_in (set keys slot (Some key)) slot ≡ Some key
    put_at = get_or-set_at keys slot slot (Some key) None refl low

    pub put_other : (q : ℕ) → q ≢ slot → key_in (set keys slot (Some key)) q ≡ key_in keys q
    put_other q other = get_or-set_other keys slot q (Some key) None other

    -- a slot with a key had it before, or is this one
    pub put_cases : (q k : ℕ) → key_in (set keys slot (Some key)) q ≡ Some k
        → ((q ≡ slot) × (key ≡ k)) ⊎ ((q ≢ slot) × (key_in keys q ≡ Some k))
    put_cases q k has = ⊎_elim
        (λ (same : q ≡ slot).
        let both : Some key ≡ Some k = sym put_at ∙ ap (key_in new) (sym same) ∙ has in
        let one : key ≡ k = cc in
        inl (same, one))
        (λ other. inr (other, sym (put_other q other) ∙ has)) (cases_eq q slot)

    pub put_apart : AreApart (set keys slot (Some key))
    put_apart p q k at_p at_q = ⊎_elim
        (λ now. ⊎_elim (λ then. now.0 ∙ sym then.0)
        (λ was. absurd (none_has key keys q missing (was.1 ∙ ap Some (sym now.1)))) (put_cases q k at_q))
        (λ was. ⊎_elim (λ now. absurd (none_has key keys p missing (was.1 ∙ ap Some (sym now.1))))
        (λ too. apart p q k was.1 too.1) (put_cases q k at_q))
        (put_cases p k at_p)

    pub put_slots : key_in keys slot ≡ None → (k : ℕ)
        → slot_of k (set keys slot (Some key)) ≡ cond (nat_eq key k) (Some slot) (slot_of k keys)
    put_slots free k =
        (elim (nat_eq key k) as (λ b. nat_eq key k ≡ b
        → slot_of k (set keys slot (Some key)) ≡ cond b (Some slot) (slot_of k keys)) [
          | true ↦ λ t.
              let has = put_at ∙ ap Some (eqb-true key k t) in
              slot_is k new slot has (λ q h. put_apart q slot k h has)
          | false ↦ λ f.
              (elim (slot_of k keys) as (λ o. slot_of k keys ≡ o → slot_of k new ≡ o) [
                | None ↦ λ none. no_slot k new (λ q h. ⊎_elim (λ now. eqb-false key k f now.1)
                    (λ was. none_has k keys q none was.1) (put_cases q k h))
                | Some p ↦ λ is.
                    let was = slot_has k keys p is in
                    let other : p ≢ slot = λ (e : p ≡ slot).
                    let both : None ≡ Some k = sym free ∙ ap (key_in keys) (sym e) ∙ was in
                    absurd cc in
                    let has = put_other p other ∙ was in
                    slot_is k new p has (λ q h. put_apart q p k h has)
              ]) refl
        ]) refl

  -- ---- the slot of a key loses it
  module _ (key slot : ℕ) (had : key_in keys slot ≡ Some key) where
    abbrev left : List (Option ℕ)
    left = set keys slot None

    pub take_at : key_in (set keys slot None) slot ≡ None
    take_at = get_or-set_at keys slot slot None None refl (low_key keys slot key had)

    pub take_other : (q : ℕ) → q ≢ slot → key_in (set keys slot None) q ≡ key_in keys q
    take_other q other = get_or-set_other keys slot q None None other

    -- a slot that still has a key is another
    pub take_left : (q k : ℕ) → key_in (set keys slot None) q ≡ Some k
        → (q ≢ slot) × (key_in keys q ≡ Some k)
    take_left q k has =
        let other : q ≢ slot = λ (e : q ≡ slot).
        let both : None ≡ Some k = sym take_at ∙ ap (key_in left) (sym e) ∙ has in
        absurd cc in
        (other, sym (take_other q other) ∙ has)

    pub take_apart : AreApart (set keys slot None)
    take_apart p q k at_p at_q = apart p q k (take_left p k at_p).1 (take_left q k at_q).1

    pub take_slots : (k : ℕ)
        → slot_of k (set keys slot None) ≡ cond (nat_eq key k) None (slot_of k keys)
    take_slots k =
        (elim (nat_eq key k) as (λ b. nat_eq key k ≡ b
        → slot_of k (set keys slot None) ≡ cond b None (slot_of k keys)) [
          | true ↦ λ t. no_slot k left (λ q h.
              let was = take_left q k h in
              was.0 (apart q slot k was.1 (had ∙ ap Some (eqb-true key k t))))
          | false ↦ λ f.
              (elim (slot_of k keys) as (λ o. slot_of k keys ≡ o → slot_of k left ≡ o) [
                | None ↦ λ none. no_slot k left (λ q h. none_has k keys q none (take_left q k h).1)
                | Some p ↦ λ is.
                    let was = slot_has k keys p is in
                    let other : p ≢ slot = λ (e : p ≡ slot).
                    let both : Some key ≡ Some k = sym had ∙ ap (key_in keys) (sym e) ∙ was in
                    let one : key ≡ k = cc in
                    eqb-false key k f one in
                    let has = take_other p other ∙ was in
                    slot_is k left p has (λ q h. take_apart q p k h has)
              ]) refl
        ]) refl
