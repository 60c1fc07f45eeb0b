-- Which entries stay when the last unpinned one leaves, once or repeatedly.
use Rattle.std.proofs.Common.{◌≡◌, ℕ, ◌+◌, ◌<◌, ◌||◌, Bool, true, false, cond, nat_eq}
use Rattle.std.proofs.Common.{[], ◌∷◌, ◌++◌, length, refl, sym, ap, ◌∙◌, subst, arith}
use Rattle.std.specs.List.{All, AllByRecursion, IsDistinct, sum_by, list_any}
use Rattle.std.specs.Map.{keys_of, values_of, remove_entry}
use Rattle.std.proofs.lemmas.Bool.{eq-eqb, eqb-true}
use Rattle.std.proofs.lemmas.Bool.Decides.{nat_tests}
use Rattle.std.proofs.lemmas.List.Elements.{All-cons, All-head, All-tail}
use Rattle.std.proofs.lemmas.List.Sums.{sum_by-cons}
use Rattle.tile_store.specs.CachedTile.{EntryState, Entries, unpinned_bytes, pin_sum, loose_bytes, is_unpinned}
use Rattle.tile_store.specs.Changes.{without_last_unpinned}
use Rattle.tile_store.specs.Leaving.{IsLastUnpinned}

or_true : (a : Bool) → (a || true) ≡ true
or_true true = refl
or_true false = refl

-- ---- one entry within the list

list_any_at : (front : Entries) (x : ℕ × EntryState) (back : Entries) → is_unpinned x ≡ true
    → list_any is_unpinned (front ++ x ∷ back) ≡ true
list_any_at [] x back h = rw h refl
list_any_at (f ∷ front) x back h = rw (list_any_at front x back h) (or_true (is_unpinned f))

pub sum_at : (f : EntryState → ℕ) (front : Entries) (x : ℕ × EntryState) (back : Entries)
    → sum_by f (values_of (front ++ x ∷ back)) ≡ sum_by f (values_of (front ++ back)) + f x.1
sum_at f [] x back = omega (arith, sum_by-cons f x.1 (values_of back))
sum_at f (g ∷ front) x back = omega (
  arith,
  sum_at f front x back,
  sum_by-cons f g.1 (values_of (front ++ x ∷ back)),
  sum_by-cons f g.1 (values_of (front ++ back)),
)

without_at : (front : Entries) (x : ℕ × EntryState) (back : Entries) → is_unpinned x ≡ true
    → list_any is_unpinned back ≡ false → without_last_unpinned (front ++ x ∷ back) ≡ front ++ back
without_at [] x back h none = rw (none, h) refl
without_at (f ∷ front) x back h none =
    rw (list_any_at front x back h) (ap (λ l. f ∷ l) (without_at front x back h none))

pub key_at : (P : ℕ → Type 0) (front : Entries) (x : ℕ × EntryState) (back : Entries)
    → AllByRecursion P (keys_of (front ++ x ∷ back)) → P x.0
key_at P [] x back all = all.0
key_at P (f ∷ front) x back all = key_at P front x back all.1

pub apart : (a b : ℕ) → nat_eq a b ≡ false → nat_eq b a ≡ false
apart a b h = grind (arith, nat_tests)

pub remove_at : (front : Entries) (x : ℕ × EntryState) (back : Entries)
    → IsDistinct nat_eq (keys_of (front ++ x ∷ back))
    → remove_entry (nat_eq x.0) (front ++ x ∷ back) ≡ front ++ back
unfolding IsDistinct
remove_at [] x back distinct = rw (eq-eqb x.0 x.0 refl) refl
remove_at (f ∷ front) x back distinct =
    let other : nat_eq f.0 x.0 ≡ false =
    key_at (λ k. nat_eq f.0 k ≡ false) front x back distinct.0 in
    rw (apart f.0 x.0 other) (ap (λ l. f ∷ l) (remove_at front x back distinct.1))

-- ---- the last unpinned entry

-- what its leaving leaves
pub record LastLeaves (key bytes : ℕ) (es : Entries) : Type 0 where
  pub entries : remove_entry (nat_eq key) es ≡ without_last_unpinned es
  pub loose : loose_bytes (without_last_unpinned es) + bytes ≡ loose_bytes es

pub last_leaves : (key bytes : ℕ) (es : Entries) → IsDistinct nat_eq (keys_of es)
    → IsLastUnpinned key bytes es → LastLeaves key bytes es
last_leaves key bytes es distinct last =
    let x : ℕ × EntryState = (key, last.entry) in
    let is : is_unpinned x ≡ true = eq-eqb last.entry.pins 0 last.unpinned in
    let cut : Entries = last.front ++ x ∷ last.back in
    let left = without_at last.front x last.back is last.behind in
    let size : unpinned_bytes last.entry ≡ bytes = rw is (sym last.bytes_are) in
    let after : LastLeaves key bytes cut = record {
      entries = remove_at last.front x last.back (subst (λ l. IsDistinct nat_eq (keys_of l)) last.parts distinct) ∙ sym left;
      loose = rw left (omega (arith, sum_at unpinned_bytes last.front x last.back, size));
    } in
    subst (LastLeaves key bytes) (sym last.parts) after

-- ---- any unpinned entry

pub or_false : (a b : Bool) → (a || b) ≡ false → (a ≡ false) × (b ≡ false)
or_false true b h = absurd cc
or_false false b h = (refl, h)

-- if every entry is pinned there are no unpinned bytes
pub loose-all_pinned : (es : Entries) → list_any is_unpinned es ≡ false → loose_bytes es ≡ 0
loose-all_pinned [] h = refl
loose-all_pinned (e ∷ es) h =
    let parts = or_false (is_unpinned e) (list_any is_unpinned es) h in
    let none : unpinned_bytes e.1 ≡ 0 = rw parts.0 refl in
    omega (arith, none, loose-all_pinned es parts.1, sum_by-cons unpinned_bytes e.1 (values_of es))

true_or : (b : Bool) → (b ≡ false → ⊥) → b ≡ true
true_or true h = refl
true_or false h = absurd (h refl)

pub any_unpinned : (es : Entries) → 0 < loose_bytes es → list_any is_unpinned es ≡ true
any_unpinned es h =
    true_or (list_any is_unpinned es) (λ none. let zero = loose-all_pinned es none in omega arith)

pub length-without_last : (es : Entries) → list_any is_unpinned es ≡ true
    → length (without_last_unpinned es) + 1 ≡ length es
length-without_last [] h = absurd cc
length-without_last (e ∷ es) h =
    (elim (list_any is_unpinned es) as (λ b. list_any is_unpinned es ≡ b → (is_unpinned e || b) ≡ true
    → length (cond b (e ∷ without_last_unpinned es) (cond (is_unpinned e) es (e ∷ es))) + 1
    ≡ length (e ∷ es)) [
      | true ↦ λ more any. omega (arith, length-without_last es more)
      | false ↦ λ more any. (elim (is_unpinned e) as (λ u. (u || false) ≡ true
          → length (cond u es (e ∷ es)) + 1 ≡ length (e ∷ es)) [
            | true ↦ λ is. omega arith
            | false ↦ λ is. absurd cc
          ]) any
    ]) refl h

pub pin_sum-without_last : (es : Entries) → pin_sum (without_last_unpinned es) ≡ pin_sum es
pin_sum-without_last [] = refl
pin_sum-without_last (e ∷ es) =
    elim (list_any is_unpinned es) as (λ b. pin_sum (cond b (e ∷ without_last_unpinned es)
    (cond (is_unpinned e) es (e ∷ es))) ≡ pin_sum (e ∷ es)) [
      | true ↦ omega (
        arith,
        pin_sum-without_last es,
        sum_by-cons (λ (n : EntryState). n.pins) e.1 (values_of (without_last_unpinned es)),
        sum_by-cons (λ (n : EntryState). n.pins) e.1 (values_of es),
      )
      | false ↦ (elim (is_unpinned e) as (λ u. is_unpinned e ≡ u
          → pin_sum (cond u es (e ∷ es)) ≡ pin_sum (e ∷ es)) [
            | true ↦ λ is. omega (
              arith,
              eqb-true e.1.pins 0 is,
              sum_by-cons (λ (n : EntryState). n.pins) e.1 (values_of es),
            )
            | false ↦ λ is. refl
          ]) refl
    ]

pub All-without_last : (P : ℕ × EntryState → Type 0) (es : Entries) → All P es
    → All P (without_last_unpinned es)
All-without_last P [] all = all
All-without_last P (e ∷ es) all =
    elim (list_any is_unpinned es) as (λ b. All P (cond b (e ∷ without_last_unpinned es)
    (cond (is_unpinned e) es (e ∷ es)))) [
      | true ↦ All-cons P e (without_last_unpinned es) (All-head P e es all)
          (All-without_last P es (All-tail P e es all))
      | false ↦ elim (is_unpinned e) as (λ u. All P (cond u es (e ∷ es))) [
        | true ↦ All-tail P e es all
        | false ↦ all
      ]
    ]

-- ---- a walk from the back

-- the entries that the walk has passed are pinned
pub record PinnedBehind (es left : Entries) : Type 0 where
  pub passed : Entries
  pub parts : es ≡ left ++ passed
  pub pinned : list_any is_unpinned passed ≡ false
