-- Sums over a list with one element singled out, and the number of pins of all seats on some slots.
use Rattle.std.proofs.Common.{◌≡◌, ℕ, zero, suc, ◌+◌, ◌*◌, ◌≤◌, List, [], ◌∷◌, set, sym, ap, arith}
use Rattle.std.proofs.Common.{true, false, cond, nat_eq, length, refl, subst}
use Rattle.std.specs.List.{sum_by, IsDistinct, AllByRecursion}
use Rattle.std.proofs.lemmas.Bool.{eqb-true}
use Rattle.std.proofs.lemmas.List.Sums.{sum_by-cons}
use mathlib.Core.Option.{some, some-injective, some-ne-none}
use lib.ListN.{get_elem?}
use Rattle.shard_gate.specs.declared.standing.Standing.{Standing}
use Rattle.shard_gate.specs.Words.{pins_on, max_pins}
use Rattle.shard_gate.specs.Turn.{pinned, permits_of}

module _ {X : Type 0} (f : X → ℕ) where
  -- One element in another's place changes the sum by the difference.
  pub sum_set : (xs : List X) (i : ℕ) (a b : X) → get_elem? xs i ≡ some a
      → sum_by f (set xs i b) + f a ≡ sum_by f xs + f b
  sum_set [] i a b e = absurd (some-ne-none a (sym e))
  sum_set (x ∷ xs) zero a b e =
      omega (arith, sum_by-cons f x xs, sum_by-cons f b xs, ap f (some-injective x a e))
  sum_set (x ∷ xs) (suc i) a b e =
      omega (arith, sum_by-cons f x xs, sum_by-cons f x (set xs i b), sum_set xs i a b e)

  -- One element is at most the sum.
  pub sum_has : (xs : List X) (i : ℕ) (a : X) → get_elem? xs i ≡ some a → f a ≤ sum_by f xs
  sum_has [] i a e = absurd (some-ne-none a (sym e))
  sum_has (x ∷ xs) zero a e =
      omega (arith, sum_by-cons f x xs, ap f (some-injective x a e))
  sum_has (x ∷ xs) (suc i) a e = omega (arith, sum_by-cons f x xs, sum_has xs i a e)

  -- The sum of what is a sum for each.
  pub sum_plus : (g h : X → ℕ) (xs : List X) → ((x : X) → f x ≡ g x + h x)
      → sum_by f xs ≡ sum_by g xs + sum_by h xs
  sum_plus g h [] each = refl
  sum_plus g h (x ∷ xs) each = omega (
    arith,
    sum_by-cons f x xs,
    sum_by-cons g x xs,
    sum_by-cons h x xs,
    each x,
    sum_plus g h xs each,
  )

  -- sums of equal values are equal
  pub sum_same : (g : X → ℕ) (xs : List X) → ((x : X) → f x ≡ g x) → sum_by f xs ≡ sum_by g xs
  sum_same g [] each = refl
  sum_same g (x ∷ xs) each =
      omega (arith, sum_by-cons f x xs, sum_by-cons g x xs, each x, sum_same g xs each)

  -- at most as much for each
  pub sum_less : (g : X → ℕ) (xs : List X) → ((x : X) → f x ≤ g x) → sum_by f xs ≤ sum_by g xs
  sum_less g [] each = omega arith
  sum_less g (x ∷ xs) each =
      omega (arith, sum_by-cons f x xs, sum_by-cons g x xs, each x, sum_less g xs each)

  pub sum_none : (xs : List X) → ((x : X) → f x ≡ 0) → sum_by f xs ≡ 0
  sum_none [] each = refl
  sum_none (x ∷ xs) each = omega (arith, sum_by-cons f x xs, each x, sum_none xs each)

-- ---- the pins of some slots, no slot twice

-- 1 for this slot, else 0
abbrev one_for : ℕ → ℕ → ℕ
one_for slot other = cond (nat_eq slot other) 1 0

none_of : (slot : ℕ) (slots : List ℕ) → AllByRecursion (λ other. nat_eq slot other ≡ false) slots
    → sum_by (one_for slot) slots ≡ 0
none_of slot [] apart = refl
none_of slot (s ∷ slots) apart =
    let not_here : one_for slot s ≡ 0 = ap (λ b. cond b 1 0) apart.0 in
    omega (arith, sum_by-cons (one_for slot) s slots, none_of slot slots apart.1)

one_of : (slot : ℕ) (slots : List ℕ) → IsDistinct nat_eq slots → sum_by (one_for slot) slots ≤ 1
unfolding IsDistinct
one_of slot [] distinct = omega arith
one_of slot (s ∷ slots) distinct =
    (elim (nat_eq slot s) as (λ b. nat_eq slot s ≡ b → sum_by (one_for slot) (s ∷ slots) ≤ 1) [
      | true ↦ λ same.
          let is : slot ≡ s = eqb-true slot s same in
          let here : one_for slot s ≡ 1 = ap (λ b. cond b 1 0) same in
          let rest : sum_by (one_for slot) slots ≡ 0 =
          subst (λ n. sum_by (one_for n) slots ≡ 0) (sym is) (none_of s slots distinct.0) in
          omega (arith, sum_by-cons (one_for slot) s slots)
      | false ↦ λ other.
          let not_here : one_for slot s ≡ 0 = ap (λ b. cond b 1 0) other in
          omega (arith, sum_by-cons (one_for slot) s slots, one_of slot slots distinct.1)
    ]) refl

-- A seat has no more pins of them than it has.
pub pins_of_seat : (pins : List (ℕ × ℕ)) (slots : List ℕ) → IsDistinct nat_eq slots
    → sum_by (λ slot. pins_on slot pins) slots ≤ length pins
pins_of_seat [] slots distinct = omega (arith, sum_none (λ (slot : ℕ). 0) slots (λ _. refl))
pins_of_seat (p ∷ ps) slots distinct = omega (
  arith,
  sum_plus (λ slot. pins_on slot (p ∷ ps)) (one_for p.0) (λ slot. pins_on slot ps) slots
      (λ _. refl),
  one_of p.0 slots distinct,
  pins_of_seat ps slots distinct,
)

-- All seats together have no more pins of them than their permits allow.
pub few_pins : (views : List Standing) (slots : List ℕ) → IsDistinct nat_eq slots
    → ((seat : ℕ) (v : Standing) → get_elem? views seat ≡ some v
    → length v.pins ≤ max_pins * v.permits)
    → sum_by (λ slot. pinned slot views) slots ≤ max_pins * sum_by permits_of views
few_pins [] slots distinct each = omega (arith, sum_none (λ (slot : ℕ). 0) slots (λ _. refl))
few_pins (v ∷ views) slots distinct each = omega (
  arith,
  sum_plus (λ slot. pinned slot (v ∷ views)) (λ slot. pins_on slot v.pins)
      (λ slot. pinned slot views) slots
      (λ slot. sum_by-cons (λ (w : Standing). pins_on slot w.pins) v views),
  pins_of_seat v.pins slots distinct,
  each 0 v refl,
  few_pins views slots distinct (λ seat w at. each (suc seat) w at),
  sum_by-cons permits_of v views,
)

-- one slot has few enough pins
pub few_pins_of : (views : List Standing) (slot : ℕ)
    → ((seat : ℕ) (v : Standing) → get_elem? views seat ≡ some v
    → length v.pins ≤ max_pins * v.permits)
    → pinned slot views ≤ max_pins * sum_by permits_of views
unfolding IsDistinct
few_pins_of views slot each = omega (
  arith,
  few_pins views (slot ∷ []) (tt, tt) each,
  sum_by-cons (λ (s : ℕ). pinned s views) slot [],
)
