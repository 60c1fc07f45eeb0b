-- When does a list of names give each file of a table a different name?
use Rattle.std.specs.Prelude.{◌≡◌, ℕ, ◌<◌, Bool, true, IsTrue, ◌&&◌, not, List, [], ◌∷◌}
use Rattle.std.specs.Prelude.{length, slice_index_or}
use Rattle.std.specs.List.{list_any}
use Rattle.std.specs.Str.{bytes_eq}
use Rattle.std.specs.Cmp.Lexicographic.{bytes_decides}
use Rattle.std.proofs.Common.{suc, zero, refl, sym, ap, arith}
use Rattle.std.proofs.lemmas.Bool.{and_parts, not-true, both_ways}
use Rattle.std.proofs.lemmas.List.Folds.{list_any_at}

-- the name of a file: the name at the file's number
abbrev pub name_at : List (List ℕ) → ℕ → List ℕ
name_at names n = slice_index_or names n []

-- no name equals a later one
abbrev pub are_distinct : List (List ℕ) → Bool
are_distinct [] = true
are_distinct (name ∷ names) = not (list_any (bytes_eq name) names) && are_distinct names

-- no later name equals the first
other_than_first : (name : List ℕ) (names : List (List ℕ)) (n : ℕ)
    → not (list_any (bytes_eq name) names) ≡ true → n < length names → name ≡ name_at names n → ⊥
other_than_first name names n apart low same =
    let here = (bytes_decides name (name_at names n)).1 same in
    both_ways (list_any (bytes_eq name) names) (not-true _ apart)
    (list_any_at (bytes_eq name) names n [] low here)

-- Distinct names give different files different names.
pub distinct_names : (names : List (List ℕ)) → IsTrue (are_distinct names)
    → (m n : ℕ) → m < length names → n < length names → name_at names m ≡ name_at names n → m ≡ n
distinct_names [] apart m n low high same = absurd (omega (arith, low))
distinct_names (name ∷ names) apart zero zero low high same = refl
distinct_names (name ∷ names) apart zero (suc n) low high same =
    absurd (other_than_first name names n (and_parts _ _ apart).0 (omega (arith, high)) same)
distinct_names (name ∷ names) apart (suc m) zero low high same =
    absurd (other_than_first name names m (and_parts _ _ apart).0 (omega (arith, low)) (sym same))
distinct_names (name ∷ names) apart (suc m) (suc n) low high same =
    ap suc (distinct_names names (and_parts _ _ apart).1 m n
    (omega (arith, low)) (omega (arith, high)) same)
