-- Where is the first space of a text whose first bytes are not spaces?
use Rattle.std.proofs.Common.{◌≡◌, ℕ, suc, ◌<◌, ◌≤◌, ◌==◌, ◌⊎◌, inl, inr}
use Rattle.std.proofs.Common.{Bool, true, false, List, ◌∷◌, length, take, get_or, position}
use Rattle.std.proofs.Common.{Option, Some, None, refl, sym, ap, ◌∙◌, arith, true≢false}
use Rattle.std.specs.Char.{is_ascii_digit}
use Rattle.std.specs.Prelude.{not}
use Rattle.std.specs.List.{list_all, position_or_len}
use Rattle.std.proofs.lemmas.Bool.{cases_lt, lt-ltb, le-ltb, eqb-true}
use Rattle.std.proofs.lemmas.List.{get_or-take, length-take-le}
use Rattle.std.proofs.lemmas.List.Sums.{prefix_len-le-length, position_or_len_is}
use Rattle.std.proofs.lemmas.List.Folds.{list_all_at}
use Rattle.std.proofs.lemmas.List.Quantifiers.{position-Some}
use Rattle.short_text.specs.Words.{space_at}

-- none of the first bytes is a space
abbrev pub NoSpace : List ℕ → ℕ → Type 0
NoSpace text k = (i : ℕ) → i < k → (get_or text i 0 == 32) ≡ false

-- a byte that is no space
pub not_space : (b : ℕ) → (b ≡ 32 → ⊥) → (b == 32) ≡ false
not_space b other = by_test (b == 32) refl
  where
    by_test : (t : Bool) → (b == 32) ≡ t → (b == 32) ≡ false
    by_test true e = absurd (other (eqb-true b 32 e))
    by_test false e = e

-- a byte that passes a test which a space does not
pub passes : (p : ℕ → Bool) (b : ℕ) → p 32 ≡ false → p b ≡ true → (b == 32) ≡ false
passes p b none e = not_space b (λ same. true≢false (sym e ∙ ap p same ∙ none))

-- what passes throughout passes at each of its places
pub all_at : (p : ℕ → Bool) (xs : List ℕ) (i : ℕ) → i < length xs → list_all p xs ≡ true
    → p (get_or xs i 0) ≡ true
all_at p xs i lt all = by_test (p (get_or xs i 0)) refl
  where
    by_test : (b : Bool) → p (get_or xs i 0) ≡ b → p (get_or xs i 0) ≡ true
    by_test true e = e
    by_test false e = absurd (true≢false (sym all ∙ list_all_at p xs i 0 lt e))

-- digits are none
pub digits_only : (text : List ℕ) (k : ℕ) → k ≤ length text
    → list_all is_ascii_digit (take k text) ≡ true → NoSpace text k
digits_only text k few all i lt =
    let some : i < length (take k text) = omega (arith, length-take-le k text few) in
    passes is_ascii_digit (get_or text i 0) refl
    (ap is_ascii_digit (sym (get_or-take k text i 0 lt)) ∙ all_at is_ascii_digit (take k text) i some all)

-- the first space comes after these bytes
pub space_behind : (text : List ℕ) (k : ℕ) → k ≤ length text → NoSpace text k → k ≤ space_at text
space_behind text k few none = by_place (position (λ b. b == 32) text) refl
  where
    before : (i : ℕ) → (get_or text i 0 == 32) ≡ true → (i < k) ⊎ (k ≤ i) → k ≤ i
    before i space (inl lt) = absurd (true≢false (sym space ∙ none i lt))
    before i space (inr ge) = ge

    by_place : (o : Option ℕ) → position (λ b. b == 32) text ≡ o → k ≤ space_at text
    by_place None e = rw e few
    by_place (Some i) e =
        rw e (before i (position-Some (λ b. b == 32) text i 0 e).1 (cases_lt i k))

-- if the next byte is not a space, the first space is further on
pub space_farther : (text : List ℕ) (k : ℕ) → k < length text → NoSpace text k
    → (get_or text k 0 == 32) ≡ false → k < space_at text
space_farther text k lt none other = space_behind text (suc k) (omega arith) (λ i h. by_place i h (cases_lt i k))
  where
    by_place : (i : ℕ) → i < suc k → (i < k) ⊎ (k ≤ i) → (get_or text i 0 == 32) ≡ false
    by_place i h (inl before) = none i before
    by_place i h (inr ge) =
        let last : i ≡ k = omega arith in
        ap (λ j. get_or text j 0 == 32) last ∙ other

-- the first space, or the end, is the first place at which a test passes
pub space_at-is : (text : List ℕ) → space_at text ≡ position_or_len (λ b. b == 32) text
space_at-is text = elim (cases_lt (position_or_len (λ b. b == 32) text) (length text)) [
  | inl lt ↦ rw (lt-ltb (position_or_len (λ b. b == 32) text) (length text) lt) refl
  | inr ge ↦ rw (le-ltb (position_or_len (λ b. b == 32) text) (length text) ge)
      (omega (arith, prefix_len-le-length (λ b. not (b == 32)) text))
]

-- if the next byte is a space, or the text ends, that is the first space
pub space_here : (text : List ℕ) (k : ℕ) → k ≤ length text → NoSpace text k
    → (k < length text → (get_or text k 0 == 32) ≡ true) → space_at text ≡ k
space_here text k few none ends =
    space_at-is text ∙ position_or_len_is (λ b. b == 32) text k 0 few none ends

-- the first space of a text that begins with another byte
pub space_at_cons : (b : ℕ) (text : List ℕ) → (b == 32) ≡ false
    → space_at (b ∷ text) ≡ suc (space_at text)
space_at_cons b text e = space_at-is (b ∷ text) ∙ step ∙ ap (λ n. suc n) (sym (space_at-is text))
  where
    step : position_or_len (λ x. x == 32) (b ∷ text) ≡ suc (position_or_len (λ x. x == 32) text)
    step = rw e (omega arith)
