-- What a search finds.
use Rattle.std.proofs.Common.{◌≡◌, ℕ, zero, suc, ◌<◌, Bool, true, false, not, List, [], ◌∷◌, length}
use Rattle.std.proofs.Common.{get_or, Option, Some, None, take, min, refl, sym, ap, ◌∙◌, arith}
use Rattle.std.proofs.Common.{subst}
use Rattle.std.proofs.Common.{zero-add, inl, inr, ◌+◌, ◌-◌, ◌≤◌}
use Rattle.std.specs.Prelude.{find}
use Rattle.std.specs.List.{range_with_len}
use Rattle.std.proofs.lemmas.List.FromFn.{get_or-range_with_len, length-range_with_len}
use Rattle.std.proofs.lemmas.Bool.{cases_lt, not_from_true}
use Rattle.std.proofs.lemmas.List.{get_or-take, length-take}
use Rattle.std.proofs.lemmas.Option.{none-some}
use Rattle.tiff_dirs.specs.Values.{IsFirstOther}
use Rattle.tiff_entries.proofs.Finding.{find_none, find_first}

pub find_same : (p q : ℕ → Bool) (xs : List ℕ) → ((v : ℕ) → p v ≡ q v) → find p xs ≡ find q xs
find_same p q [] same = refl
find_same p q (x ∷ xs) same = rw (same x, find_same p q xs same) refl

-- the first value that fails a test is found among the first values of a list
pub other_found : (test : ℕ → Bool) (value : ℕ → ℕ) (n count : ℕ) (all : List ℕ) (o : Option ℕ)
    → count ≡ min n (length all) → ((k : ℕ) → k < length all → get_or all k 0 ≡ value k)
    → IsFirstOther test value count o → o ≡ find (λ v. not (test v)) (take n all)
other_found test value n count all None is are passes =
    sym (find_none (λ v. not (test v)) (take n all) (λ k lt.
    let below : k < n = omega (arith, length-take n all) in
    let within : k < length all = omega (arith, length-take n all) in
    let same : get_or (take n all) k 0 ≡ value k = get_or-take n all k 0 below ∙ are k within in
    ap (λ v. not (test v)) same ∙ not_from_true (test (value k)) (passes k (omega arith))))
other_found test value n count all (Some v) is are other =
    let k = other.0 in
    let below : k < n = omega (arith, other.1) in
    let within : k < length all = omega (arith, other.1) in
    let same = λ (j : ℕ) (lt : j < count).
    let j-below : j < n = omega arith in
    (get_or-take n all j 0 j-below ∙ are j (omega arith)) in
    let there : get_or (take n all) k 0 ≡ v = same k other.1 ∙ other.2 in
    let long : k < length (take n all) = omega (arith, length-take n all) in
    let before = λ (j : ℕ) (lt : j < k).
    (ap (λ x. not (test x)) (same j (omega (arith, other.1)))
    ∙ not_from_true (test (value j)) (other.4 j lt)) in
    let here : not (test (get_or (take n all) k 0)) ≡ true =
    ap (λ x. not (test x)) there ∙ rw other.3 refl in
    sym (find_first (λ x. not (test x)) (take n all) k long before here ∙ ap (λ x. Some x) there)

-- ---- block by block

-- the first failing value, after values that pass
pub other_behind : (test : ℕ → Bool) (value : ℕ → ℕ) (done more n v : ℕ) → done + more ≤ n
    → ((k : ℕ) → k < done → test (value k) ≡ true)
    → IsFirstOther test (λ k. value (done + k)) more (Some v) → IsFirstOther test value n (Some v)
other_behind test value done more n v le before other = (
  done + other.0,
  omega (arith, other.1),
  other.2,
  other.3,
  λ j lt. elim (cases_lt j done) [
    | inl below ↦ before j below
    | inr above ↦
        let here : done + (j - done) ≡ j = omega arith in
        subst (λ (i : ℕ). test (value i) ≡ true) here (other.4 (j - done) (omega arith))
  ],
)

-- more values pass
pub pass_more : (test : ℕ → Bool) (value : ℕ → ℕ) (done more n : ℕ) → n ≡ done + more
    → ((k : ℕ) → k < done → test (value k) ≡ true)
    → IsFirstOther test (λ k. value (done + k)) more None
    → (k : ℕ) → k < n → test (value k) ≡ true
pass_more test value done more n is before passes k lt = elim (cases_lt k done) [
  | inl below ↦ before k below
  | inr above ↦
      let here : done + (k - done) ≡ k = omega arith in
      subst (λ (i : ℕ). test (value i) ≡ true) here (passes (k - done) (omega arith))
]

-- ---- among the numbers below n

pub none_below : (test : ℕ → Bool) (n : ℕ) → ((k : ℕ) → k < n → test k ≡ false)
    → find test (range_with_len 0 n) ≡ None
none_below test n h = find_none test (range_with_len 0 n) (λ k lt.
    let below : k < n = rw length-range_with_len at lt in
    ap test (get_or-range_with_len 0 n k 0 below ∙ zero-add k) ∙ h k below)

pub first_below : (test : ℕ → Bool) (n k : ℕ) → k < n → ((j : ℕ) → j < k → test j ≡ false)
    → test k ≡ true → find test (range_with_len 0 n) ≡ Some k
first_below test n k lt before here =
    let at = λ (j : ℕ) (below : j < n). (get_or-range_with_len 0 n j 0 below ∙ zero-add j) in
    let within : k < length (range_with_len 0 n) = rw length-range_with_len lt in
    find_first test (range_with_len 0 n) k within
    (λ j less. ap test (at j (omega arith)) ∙ before j less) (ap test (at k lt) ∙ here)
    ∙ ap (λ x. Some x) (at k lt)

-- none fails among them, so each passes
first_passes : (test : ℕ → Bool) (x : ℕ) (xs : List ℕ) (b : Bool) → test x ≡ b
    → find (λ v. not (test v)) (x ∷ xs) ≡ None
    → (test x ≡ true) × (find (λ v. not (test v)) xs ≡ None)
first_passes test x xs true is none = (is, rw is at none)
first_passes test x xs false is none = absurd (none-some x (sym (rw is at none)))

each_passes : (test : ℕ → Bool) (xs : List ℕ) → find (λ v. not (test v)) xs ≡ None → (k : ℕ)
    → k < length xs → test (get_or xs k 0) ≡ true
each_passes test [] none k lt = absurd (omega arith)
each_passes test (x ∷ xs) none zero lt = (first_passes test x xs (test x) refl none).0
each_passes test (x ∷ xs) none (suc k) lt =
    each_passes test xs (first_passes test x xs (test x) refl none).1 k (omega arith)

pub none_of_range : (test : ℕ → Bool) (n : ℕ)
    → find (λ x. not (test x)) (range_with_len 0 n) ≡ None → (k : ℕ) → k < n → test k ≡ true
none_of_range test n none k lt =
    let within : k < length (range_with_len 0 n) = rw length-range_with_len lt in
    let there : get_or (range_with_len 0 n) k 0 ≡ k =
    get_or-range_with_len 0 n k 0 lt ∙ zero-add k in
    ap test (sym there) ∙ each_passes test (range_with_len 0 n) none k within
