-- What a place that leaves an order leaves of it.
use Rattle.std.proofs.Common.{◌≡◌, ◌≢◌, ℕ, ◌+◌, ◌||◌, true, false, cond, nat_eq}
use Rattle.std.proofs.Common.{List, [], ◌∷◌, ◌++◌, length}
use Rattle.std.proofs.Common.{refl, sym, ap, ◌∙◌, subst, arith}
use Rattle.std.specs.List.{IsDistinct, AllByRecursion}
use Rattle.std.proofs.lemmas.Bool.{eq-eqb, eqb-true, eqb-false, or_parts, or_from, false≢true}
use Rattle.tile_store.specs.Links.{is_in, without}

-- ---- the order of the places

pub differs : (a b : ℕ) → nat_eq a b ≡ false → a ≢ b
differs a b h = eqb-false a b h

-- if all places of a list differ from a place, it is not in the list
pub apart_from : (p : ℕ) (xs : List ℕ) → AllByRecursion (λ y. nat_eq p y ≡ false) xs → is_in p xs ≡ false
apart_from p [] all = refl
apart_from p (x ∷ xs) all = or_from (nat_eq p x) (is_in p xs) all.0 (apart_from p xs all.1)

pub apart_as : (p : ℕ) (xs : List ℕ) → is_in p xs ≡ false → AllByRecursion (λ y. nat_eq p y ≡ false) xs
apart_as p [] out = tt
apart_as p (x ∷ xs) out =
    let parts = or_parts (nat_eq p x) (is_in p xs) out in
    (parts.0, apart_as p xs parts.1)

-- a list before and after one of its places
pub record Cut (p : ℕ) (xs : List ℕ) : Type 0 where
  pub front : List ℕ
  pub back : List ℕ
  pub parts : xs ≡ front ++ p ∷ back
  pub before : is_in p front ≡ false
  pub behind : is_in p back ≡ false
  pub left : without p xs ≡ front ++ back

pub cut_head : (p x : ℕ) (xs : List ℕ) → x ≡ p → is_in p xs ≡ false → Cut p (x ∷ xs)
cut_head p x xs same out = record {
  front = [];
  back = xs;
  parts = ap (λ y. y ∷ xs) same;
  before = refl;
  behind = out;
  left = rw (eq-eqb p x (sym same)) refl;
}

pub cut_tail : (p x : ℕ) (xs : List ℕ) → nat_eq p x ≡ false → Cut p xs → Cut p (x ∷ xs)
cut_tail p x xs other c = record {
  front = x ∷ c.front;
  back = c.back;
  parts = ap (λ l. x ∷ l) c.parts;
  before = or_from (nat_eq p x) (is_in p c.front) other c.before;
  behind = c.behind;
  left = rw other (ap (λ l. x ∷ l) c.left);
}

pub cut : (p : ℕ) (xs : List ℕ) → IsDistinct nat_eq xs → is_in p xs ≡ true → Cut p xs
unfolding IsDistinct
cut p [] distinct has = absurd (false≢true has)
cut p (x ∷ xs) distinct has =
    (elim (nat_eq p x) as (λ b. nat_eq p x ≡ b → (b || is_in p xs) ≡ true → Cut p (x ∷ xs)) [
      | true ↦ λ same _.
          let is : p ≡ x = eqb-true p x same in
          cut_head p x xs (sym is)
          (subst (λ y. is_in y xs ≡ false) (sym is) (apart_from x xs distinct.0))
      | false ↦ λ other more. cut_tail p x xs other (cut p xs distinct.1 more)
    ]) refl has

pub length-without : (p : ℕ) (xs : List ℕ) → is_in p xs ≡ true → length (without p xs) + 1 ≡ length xs
length-without p [] has = absurd (false≢true has)
length-without p (x ∷ xs) has =
    (elim (nat_eq p x) as (λ b. (b || is_in p xs) ≡ true
    → length (cond b xs (x ∷ without p xs)) + 1 ≡ length (x ∷ xs)) [
      | true ↦ λ _. omega arith
      | false ↦ λ more. omega (arith, length-without p xs more)
    ]) has

-- what is not in the order is not in what stays of it
pub out-without : (q p : ℕ) (xs : List ℕ) → is_in q xs ≡ false → is_in q (without p xs) ≡ false
out-without q p [] out = refl
out-without q p (x ∷ xs) out =
    let parts = or_parts (nat_eq q x) (is_in q xs) out in
    elim (nat_eq p x) as (λ b. is_in q (cond b xs (x ∷ without p xs)) ≡ false) [
      | true ↦ parts.1
      | false ↦ or_from (nat_eq q x) (is_in q (without p xs)) parts.0 (out-without q p xs parts.1)
    ]

-- what stays in a list was in it
pub in-without : (q p : ℕ) (xs : List ℕ) → is_in q (without p xs) ≡ true → is_in q xs ≡ true
in-without q p xs has =
    (elim (is_in q xs) as (λ b. is_in q xs ≡ b → b ≡ true) [
      | true ↦ λ _. refl
      | false ↦ λ out. sym (out-without q p xs out) ∙ has
    ]) refl

pub distinct-without : (p : ℕ) (xs : List ℕ) → IsDistinct nat_eq xs → IsDistinct nat_eq (without p xs)
unfolding IsDistinct
distinct-without p [] distinct = tt
distinct-without p (x ∷ xs) distinct =
    elim (nat_eq p x) as (λ b. IsDistinct nat_eq (cond b xs (x ∷ without p xs))) [
      | true ↦ distinct.1
      | false ↦ (
        apart_as x (without p xs) (out-without x p xs (apart_from x xs distinct.0)),
        distinct-without p xs distinct.1,
      )
    ]

-- the place itself has left
pub gone : (p : ℕ) (xs : List ℕ) → IsDistinct nat_eq xs → is_in p (without p xs) ≡ false
unfolding IsDistinct
gone p [] distinct = refl
gone p (x ∷ xs) distinct =
    (elim (nat_eq p x) as (λ b. nat_eq p x ≡ b → is_in p (cond b xs (x ∷ without p xs)) ≡ false) [
      | true ↦ λ same. subst (λ y. is_in y xs ≡ false) (sym (eqb-true p x same))
          (apart_from x xs distinct.0)
      | false ↦ λ other. or_from (nat_eq p x) (is_in p (without p xs)) other (gone p xs distinct.1)
    ]) refl
