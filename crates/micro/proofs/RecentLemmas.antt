-- What one key more changes of the latest two.
use Rattle.std.proofs.Common.{◌≡◌, ℕ, Bool, true, false, cond, not, ◌||◌, nat_eq, List, [], ◌∷◌, ◌++◌}
use Rattle.std.proofs.Common.{take, reverse, refl, sym, ap, ◌∙◌, arith}
use Rattle.std.specs.List.{AllByRecursion, IsDistinct, filter, list_any}
use Rattle.std.specs.Set.{unique_keys}
use Rattle.std.proofs.lemmas.Bool.{or_parts}
use Rattle.std.proofs.lemmas.Bool.Decides.{nat_tests}
use Rattle.std.proofs.lemmas.Cmp.{nat_eq_equiv}
use Rattle.std.proofs.lemmas.Grind.{reverse_onto}
use Rattle.std.proofs.lemmas.List.{reverse-append, append-nil}
use Rattle.std.proofs.lemmas.List.Elements.{filter-append}
use Rattle.std.proofs.lemmas.List.Folds.{list_any-append}
use Rattle.std.proofs.lemmas.List.Sorted.{IsPermutation-reverse}
use Rattle.std.proofs.lemmas.Map.Keys.{IsDistinct-IsPermutation}
use Rattle.micro.specs.Recent.{by_last_place, recent}

-- whether the key is a different one
abbrev pub is_other : ℕ → ℕ → Bool
is_other key k = not (nat_eq k key)

pub flip : (a b : ℕ) → nat_eq a b ≡ false → nat_eq b a ≡ false
flip a b apart = nat_eq_equiv.symm b a ∙ apart

-- ---- each key once

unique_keys-push : (xs : List ℕ) (key : ℕ) → unique_keys nat_eq (xs ++ key ∷ [])
    ≡ filter (is_other key) (unique_keys nat_eq xs) ++ key ∷ []
unique_keys-push [] key = refl
unique_keys-push (x ∷ xs) key =
    let keys = unique_keys nat_eq xs in
    let kept = filter (is_other key) keys in
    rw (list_any-append (nat_eq x) xs (key ∷ []), unique_keys-push xs key)
    (elim (list_any (nat_eq x) xs) as (λ later.
    cond (later || (nat_eq x key || false)) (kept ++ key ∷ []) (x ∷ (kept ++ key ∷ []))
    ≡ filter (is_other key) (cond later keys (x ∷ keys)) ++ key ∷ []) [
      | true ↦ refl
      | false ↦ elim (nat_eq x key) as (λ same.
          cond (same || false) (kept ++ key ∷ []) (x ∷ (kept ++ key ∷ []))
          ≡ cond (not same) (x ∷ kept) kept ++ key ∷ []) [ true ↦ refl | false ↦ refl ]
    ])

apart_from_absent : (x : ℕ) (ys : List ℕ) → list_any (nat_eq x) ys ≡ false
    → AllByRecursion (λ y. nat_eq x y ≡ false) (unique_keys nat_eq ys)
apart_from_absent x [] absent = tt
apart_from_absent x (y ∷ ys) absent =
    let parts = or_parts (nat_eq x y) (list_any (nat_eq x) ys) absent in
    elim (list_any (nat_eq y) ys) as (λ later. AllByRecursion (λ z. nat_eq x z ≡ false)
    (cond later (unique_keys nat_eq ys) (y ∷ unique_keys nat_eq ys))) [
      | true ↦ apart_from_absent x ys parts.1
      | false ↦ (parts.0, apart_from_absent x ys parts.1)
    ]

IsDistinct-unique_keys : (xs : List ℕ) → IsDistinct nat_eq (unique_keys nat_eq xs)
unfolding IsDistinct
IsDistinct-unique_keys [] = tt
IsDistinct-unique_keys (x ∷ xs) =
    (elim (list_any (nat_eq x) xs) as (λ later. list_any (nat_eq x) xs ≡ later
    → IsDistinct nat_eq (cond later (unique_keys nat_eq xs) (x ∷ unique_keys nat_eq xs))) [
      | true ↦ λ _. IsDistinct-unique_keys xs
      | false ↦ λ last. (apart_from_absent x xs last, IsDistinct-unique_keys xs)
    ]) refl

-- ---- the latest first

reverse-filter : (p : ℕ → Bool) (xs : List ℕ) → reverse (filter p xs) ≡ filter p (reverse xs)
reverse-filter p [] = refl
reverse-filter p (x ∷ xs) =
    let right : filter p (reverse (x ∷ xs)) ≡ filter p (reverse xs) ++ cond (p x) (x ∷ []) [] =
    ap (filter p) (reverse_onto xs x []) ∙ filter-append p (reverse xs) (x ∷ []) in
    (elim (p x) as (λ b. reverse (cond b (x ∷ filter p xs) (filter p xs))
    ≡ filter p (reverse xs) ++ cond b (x ∷ []) []) [
      | true ↦ reverse_onto (filter p xs) x [] ∙ ap (λ l. l ++ x ∷ []) (reverse-filter p xs)
      | false ↦ reverse-filter p xs ∙ sym (append-nil (filter p (reverse xs)))
    ]) ∙ sym right

IsDistinct-by_last_place : (asked : List ℕ) → IsDistinct nat_eq (by_last_place asked)
IsDistinct-by_last_place asked =
    let keys = unique_keys nat_eq asked in
    IsDistinct-IsPermutation nat_eq nat_eq_equiv.symm keys (reverse keys)
    (IsPermutation-reverse keys) (IsDistinct-unique_keys asked)

-- ---- the two latest

third_apart : (a b key : ℕ) → nat_eq a b ≡ false → nat_eq a key ≡ true → nat_eq b key ≡ false
third_apart a b key apart same = grind (arith, nat_tests)

-- of distinct keys, the first that differs from this one is among the first two
first_other : (key : ℕ) (ks : List ℕ) → IsDistinct nat_eq ks
    → take 1 (filter (is_other key) ks) ≡ take 1 (filter (is_other key) (take 2 ks))
unfolding IsDistinct
first_other key [] distinct = refl
first_other key (a ∷ []) distinct = refl
first_other key (a ∷ b ∷ ks) distinct =
    let rest = filter (is_other key) (b ∷ ks) in
    let next = filter (is_other key) (b ∷ []) in
    (elim (nat_eq a key) as (λ same. nat_eq a key ≡ same
    → take 1 (cond (not same) (a ∷ rest) rest) ≡ take 1 (cond (not same) (a ∷ next) next)) [
      | true ↦ λ same. rw (third_apart a b key distinct.0.0 same) refl
      | false ↦ λ _. refl
    ]) refl

pub recent-none : recent [] ≡ []
unfolding recent
recent-none = refl

-- The key asked for is the latest, and the latest different one follows it.
pub recent-push : (asked : List ℕ) (key : ℕ)
    → recent (asked ++ key ∷ []) ≡ key ∷ take 1 (filter (is_other key) (recent asked))
unfolding recent
recent-push asked key =
    let keys = unique_keys nat_eq asked in
    let others = filter (is_other key) keys in
    let turned : by_last_place (asked ++ key ∷ []) ≡ key ∷ filter (is_other key) (reverse keys) =
    ap reverse (unique_keys-push asked key)
    ∙ reverse-append others (key ∷ [])
    ∙ ap (λ l. key ∷ l) (reverse-filter (is_other key) keys) in
    ap (take 2) turned
    ∙ ap (λ l. key ∷ l) (first_other key (reverse keys) (IsDistinct-by_last_place asked))
