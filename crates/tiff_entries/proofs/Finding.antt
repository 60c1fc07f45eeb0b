-- What a search in a list finds.
use Rattle.std.proofs.Common.{◌≡◌, ℕ, zero, suc, ◌<◌, Bool, true, false, List, [], ◌∷◌, length}
use Rattle.std.proofs.Common.{get_or, Some, None, refl, arith}
use Rattle.std.specs.Prelude.{find}

pub find_none : (test : ℕ → Bool) (xs : List ℕ)
    → ((k : ℕ) → k < length xs → test (get_or xs k 0) ≡ false) → find test xs ≡ None
find_none test [] h = refl
find_none test (x ∷ xs) h =
    let first : test x ≡ false = h 0 (omega arith) in
    rw first (find_none test xs (λ k lt. h (suc k) (omega arith)))

pub find_first : (test : ℕ → Bool) (xs : List ℕ) (k : ℕ) → k < length xs
    → ((j : ℕ) → j < k → test (get_or xs j 0) ≡ false) → test (get_or xs k 0) ≡ true
    → find test xs ≡ Some (get_or xs k 0)
find_first test [] k lt before here = absurd (omega arith)
find_first test (x ∷ xs) zero lt before here = rw here refl
find_first test (x ∷ xs) (suc k) lt before here =
    let first : test x ≡ false = before 0 (omega arith) in
    rw first (find_first test xs k (omega arith) (λ j below. before (suc j) (omega arith)) here)
