-- An order with one more place at either end.
use Rattle.std.proofs.Common.{◌≡◌, ◌≢◌, ℕ, ◌<◌, ◌⊎◌, true, false, cond, nat_eq}
use Rattle.std.proofs.Common.{List, [], ◌∷◌, ◌++◌, length}
use Rattle.std.proofs.Common.{refl, sym, ◌∙◌, subst, inl, inr, ⊎_elim, arith}
use Rattle.std.specs.List.{IsDistinct}
use Rattle.std.proofs.lemmas.Bool.{eq-eqb, eqb-true, eqb-false, ne_eqb, or_parts, or_from, or_left, or_cases}
use Rattle.std.proofs.lemmas.Bool.{cases_eq, false≢true}
use Rattle.tile_store.specs.Links.{is_in, without}
use Rattle.tile_store.proofs.OrderLemmas.{head_in, tail_in}
use Rattle.tile_store.proofs.PlaceLemmas.{apart_as, apart_from, in-without}

-- ---- places in an order

pub cases_in : (q p : ℕ) (ps : List ℕ) → is_in q (p ∷ ps) ≡ true → (q ≡ p) ⊎ (is_in q ps ≡ true)
cases_in q p ps h = ⊎_elim (λ e. inl (eqb-true q p e)) (λ more. inr more) (or_cases (nat_eq q p) (is_in q ps) h)

pub stays_in : (q p : ℕ) (xs : List ℕ) → q ≢ p → is_in q xs ≡ true → is_in q (without p xs) ≡ true
stays_in q p [] other has = absurd (false≢true has)
stays_in q p (x ∷ xs) other has =
    (elim (nat_eq p x) as (λ b. nat_eq p x ≡ b → is_in q (cond b xs (x ∷ without p xs)) ≡ true) [
      | true ↦ λ same. ⊎_elim (λ e. absurd (other (e ∙ sym (eqb-true p x same)))) (λ more. more) (cases_in q x xs has)
      | false ↦ λ _. ⊎_elim (λ (e : q ≡ x). or_left (nat_eq q x) (is_in q (without p xs)) (eq-eqb q x e))
          (λ more. tail_in q x (without p xs) (stays_in q p xs other more)) (cases_in q x xs has)
    ]) refl

pub in_moved : (q p : ℕ) (xs : List ℕ) → is_in p xs ≡ true → is_in q (p ∷ without p xs) ≡ true → is_in q xs ≡ true
in_moved q p xs has h = ⊎_elim (λ e. subst (λ r. is_in r xs ≡ true) (sym e) has) (in-without q p xs) (cases_in q p (without p xs) h)

pub moved_in : (q p : ℕ) (xs : List ℕ) → is_in q xs ≡ true → is_in q (p ∷ without p xs) ≡ true
moved_in q p xs h =
    ⊎_elim (λ e. or_left (nat_eq q p) (is_in q (without p xs)) (eq-eqb q p e))
    (λ other. tail_in q p (without p xs) (stays_in q p xs other h)) (cases_eq q p)

pub in_end : (q p : ℕ) (xs : List ℕ) → is_in q (xs ++ p ∷ []) ≡ true → (is_in q xs ≡ true) ⊎ (q ≡ p)
in_end q p [] h = ⊎_elim (λ e. inr e) (λ no_more. absurd (false≢true no_more)) (cases_in q p [] h)
in_end q p (x ∷ xs) h =
    ⊎_elim (λ e. inl (or_left (nat_eq q x) (is_in q xs) (eq-eqb q x e)))
    (λ more. ⊎_elim (λ has. inl (tail_in q x xs has)) (λ e. inr e) (in_end q p xs more))
    (cases_in q x (xs ++ p ∷ []) h)

pub in_first : (q p : ℕ) (xs : List ℕ) → is_in q xs ≡ true → is_in q (xs ++ p ∷ []) ≡ true
in_first q p [] h = absurd (false≢true h)
in_first q p (x ∷ xs) h =
    ⊎_elim (λ e. or_left (nat_eq q x) (is_in q (xs ++ p ∷ [])) (eq-eqb q x e))
    (λ more. tail_in q x (xs ++ p ∷ []) (in_first q p xs more)) (cases_in q x xs h)

pub in_last : (p : ℕ) (xs : List ℕ) → is_in p (xs ++ p ∷ []) ≡ true
in_last p [] = head_in p []
in_last p (x ∷ xs) = tail_in p x (xs ++ p ∷ []) (in_last p xs)

pub out_end : (q p : ℕ) (xs : List ℕ) → is_in q xs ≡ false → q ≢ p → is_in q (xs ++ p ∷ []) ≡ false
out_end q p [] out other = or_from (nat_eq q p) false (ne_eqb q p other) refl
out_end q p (x ∷ xs) out other =
    let parts = or_parts (nat_eq q x) (is_in q xs) out in
    or_from (nat_eq q x) (is_in q (xs ++ p ∷ [])) parts.0 (out_end q p xs parts.1 other)

pub distinct_end : (p : ℕ) (xs : List ℕ) → IsDistinct nat_eq xs → is_in p xs ≡ false → IsDistinct nat_eq (xs ++ p ∷ [])
unfolding IsDistinct
distinct_end p [] distinct out = (tt, tt)
distinct_end p (x ∷ xs) distinct out =
    let parts = or_parts (nat_eq p x) (is_in p xs) out in (
      apart_as x (xs ++ p ∷ []) (out_end x p xs (apart_from x xs distinct.0)
          (λ e. eqb-false p x parts.0 (sym e))),
      distinct_end p xs distinct.1 parts.1,
    )

pub out_first : (q p : ℕ) (xs : List ℕ) → is_in q (xs ++ p ∷ []) ≡ false → is_in q xs ≡ false
out_first q p [] out = refl
out_first q p (x ∷ xs) out =
    let parts = or_parts (nat_eq q x) (is_in q (xs ++ p ∷ [])) out in
    or_from (nat_eq q x) (is_in q xs) parts.0 (out_first q p xs parts.1)

pub record Ended (p : ℕ) (xs : List ℕ) : Type 0 where
  pub rest : IsDistinct nat_eq xs
  pub out : is_in p xs ≡ false

pub ended : (p : ℕ) (xs : List ℕ) → IsDistinct nat_eq (xs ++ p ∷ []) → Ended p xs
unfolding IsDistinct
ended p [] distinct = record { rest = tt; out = refl }
ended p (x ∷ xs) distinct =
    let more = ended p xs distinct.1 in
    let all = apart_from x (xs ++ p ∷ []) distinct.0 in
    let other : p ≢ x = λ e. false≢true (sym all ∙ subst (λ r. is_in r (xs ++ p ∷ []) ≡ true) e (in_last p xs)) in
    record {
      rest = (apart_as x xs (out_first x p xs all), more.rest);
      out = or_from (nat_eq p x) (is_in p xs) (ne_eqb p x other) more.out;
    }

pub some_used : (ps : List ℕ) (p : ℕ) → is_in p ps ≡ true → 0 < length ps
some_used [] p has = absurd (false≢true has)
some_used (q ∷ qs) p has = omega arith
