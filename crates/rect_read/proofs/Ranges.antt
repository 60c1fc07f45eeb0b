-- Lists over ranges of numbers, piece by piece.
use Rattle.std.proofs.Common.{◌≡◌, ℕ, zero, suc, ◌+◌, ◌*◌, ◌<◌, List, ◌∷◌, ◌++◌}
use Rattle.std.proofs.Common.{map, refl, sym, ap, ◌∙◌, add-zero}
use Rattle.std.proofs.Common.{zero-add, arith}
use Rattle.std.specs.List.{range_with_len, flat_map}
use Rattle.std.proofs.lemmas.List.{map-append}

-- a range in two parts
pub range_parts : (a m n : ℕ)
    → range_with_len a (m + n) ≡ range_with_len a m ++ range_with_len (a + m) n
range_parts a zero n = rw (zero-add n, add-zero a) refl
range_parts a (suc m) n =
    let more : suc m + n ≡ suc (m + n) = omega arith in
    let behind : a + suc m ≡ a + 1 + m = omega arith in
    rw (more, behind) (ap (λ (r : List ℕ). a ∷ r) (range_parts (a + 1) m n))

-- equal pieces over two ranges join to equal lists
pub flat_alike : {X : Type 0} (f g : ℕ → List X) (a b n : ℕ) → ((i : ℕ) → i < n → f (a + i) ≡ g (b + i))
    → flat_map f (range_with_len a n) ≡ flat_map g (range_with_len b n)
flat_alike f g a b zero same = refl
flat_alike f g a b (suc n) same =
    let first : f a ≡ g b = ap f (sym (add-zero a)) ∙ same 0 (omega arith) ∙ ap g (add-zero b) in
    let rest =
    flat_alike f g (a + 1) (b + 1) n
    (λ i lt. ap f (next a i) ∙ same (i + 1) (omega arith) ∙ ap g (sym (next b i))) in
    rw (first, rest) refl
  where
    next : (c i : ℕ) → c + 1 + i ≡ c + (i + 1)
    next c i = omega arith

-- equal values over two ranges make equal lists
pub map_alike : {X : Type 0} (f g : ℕ → X) (a b n : ℕ) → ((i : ℕ) → i < n → f (a + i) ≡ g (b + i))
    → map f (range_with_len a n) ≡ map g (range_with_len b n)
map_alike f g a b zero same = refl
map_alike f g a b (suc n) same =
    let first : f a ≡ g b = ap f (sym (add-zero a)) ∙ same 0 (omega arith) ∙ ap g (add-zero b) in
    let rest =
    map_alike f g (a + 1) (b + 1) n
    (λ i lt. ap f (next a i) ∙ same (i + 1) (omega arith) ∙ ap g (sym (next b i))) in
    rw (first, rest) refl
  where
    next : (c i : ℕ) → c + 1 + i ≡ c + (i + 1)
    next c i = omega arith

-- rows of n values, one after another
pub flat_rows : {X : Type 0} (f : ℕ → X) (n a m : ℕ)
    → flat_map (λ i. map (λ c. f (i * n + c)) (range_with_len 0 n)) (range_with_len a m)
    ≡ map f (range_with_len (a * n) (m * n))
flat_rows f n a zero = let none : 0 ≡ 0 * n = omega arith in
    ap (λ (k : ℕ). map f (range_with_len (a * n) k)) none
flat_rows f n a (suc m) =
    let first : map (λ c. f (a * n + c)) (range_with_len 0 n) ≡ map f (range_with_len (a * n) n) =
    map_alike (λ c. f (a * n + c)) f 0 (a * n) n
    (λ i lt. ap (λ (k : ℕ). f (a * n + k)) (zero-add i)) in
    let rest = flat_rows f n (a + 1) m in
    let next : (a + 1) * n ≡ a * n + n = omega arith in
    let total : suc m * n ≡ n + m * n = omega arith in
    rw (first, rest, next, total)
    (sym (ap (map f) (range_parts (a * n) n (m * n))
    ∙ map-append f (range_with_len (a * n) n) (range_with_len (a * n + n) (m * n))))
