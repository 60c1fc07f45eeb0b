-- Lists of numbers by file: what a write at one place keeps at each, and the greater of two.
use Rattle.std.proofs.Common.{◌≡◌, ◌⊎◌, ℕ, zero, suc, max, List, [], ◌∷◌, length, replicate, set}
use Rattle.std.proofs.Common.{refl, subst, sym, ⊎_elim, arith}
use Rattle.std.specs.Prelude.{slice_index}
use Rattle.gen_board.specs.Rule.{later_of}

-- What is true of each number holds after a write, if it holds of the number that is written.
pub set_keeps : (P : ℕ → ℕ → Type 0) (xs : List ℕ) (i m : ℕ) → ((k : ℕ) → P k (slice_index xs k))
    → P i m → (k : ℕ) → P k (slice_index (set xs i m) k)
set_keeps P [] i m each new k = each k
set_keeps P (x ∷ xs) zero m each new zero = new
set_keeps P (x ∷ xs) zero m each new (suc k) = each (suc k)
set_keeps P (x ∷ xs) (suc i) m each new zero = each zero
set_keeps P (x ∷ xs) (suc i) m each new (suc k) =
    set_keeps (λ j. P (suc j)) xs i m (λ j. each (suc j)) new k

-- The greater of two numbers is one of them.
max_is_one : (a b : ℕ) → (max a b ≡ a) ⊎ (max a b ≡ b)
max_is_one a b = grind arith

-- What is true of two numbers holds of the greater one.
pub max_keeps : (P : ℕ → Type 0) (a b : ℕ) → P a → P b → P (max a b)
max_keeps P a b left right = ⊎_elim
    (λ (e : max a b ≡ a). subst P (sym e) left)
    (λ (e : max a b ≡ b). subst P (sym e) right)
    (max_is_one a b)

-- What is true of each number of two lists holds of the greater ones.
pub later_keeps : (P : ℕ → ℕ → Type 0) (xs ys : List ℕ) → ((k : ℕ) → P k (slice_index xs k))
    → ((k : ℕ) → P k (slice_index ys k)) → (k : ℕ) → P k (slice_index (later_of xs ys) k)
later_keeps P [] ys left right k = left k
later_keeps P (x ∷ xs) [] left right k = left k
later_keeps P (x ∷ xs) (y ∷ ys) left right zero = max_keeps (P zero) x y (left zero) (right zero)
later_keeps P (x ∷ xs) (y ∷ ys) left right (suc k) =
    later_keeps (λ j. P (suc j)) xs ys (λ j. left (suc j)) (λ j. right (suc j)) k

-- merging two lists of equal length takes the greater number at each place
pub later_at : (xs ys : List ℕ) (k : ℕ) → length ys ≡ length xs
    → slice_index (later_of xs ys) k ≡ max (slice_index xs k) (slice_index ys k)
later_at [] [] k same = refl
later_at [] (y ∷ ys) k same = absurd (omega arith)
later_at (x ∷ xs) [] k same = absurd (omega arith)
later_at (x ∷ xs) (y ∷ ys) zero same = refl
later_at (x ∷ xs) (y ∷ ys) (suc k) same = later_at xs ys k (omega arith)

pub length-later : (xs ys : List ℕ) → length (later_of xs ys) ≡ length xs
length-later [] ys = refl
length-later (x ∷ xs) [] = refl
length-later (x ∷ xs) (y ∷ ys) = omega (arith, length-later xs ys)

-- A list of zeros has 0 at each place, and past its end.
pub zero_at : (n k : ℕ) → slice_index (replicate n 0) k ≡ 0
zero_at zero k = refl
zero_at (suc n) zero = refl
zero_at (suc n) (suc k) = zero_at n k
