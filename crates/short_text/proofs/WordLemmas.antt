-- Which word does a text have before its first space?
use Rattle.std.proofs.Common.{◌≡◌, ℕ, ◌+◌, ◌<◌, ◌≤◌, ◌==◌, Bool, true, false}
use Rattle.std.proofs.Common.{List, [], ◌∷◌, ◌++◌, length, take, drop, get_or, refl, sym, ap, ◌∙◌}
use Rattle.std.proofs.Common.{arith, true≢false}
use Rattle.std.specs.Prelude.{not}
use Rattle.std.specs.Str.{bytes_eq}
use Rattle.std.proofs.lemmas.List.{get_or-take, length-take, take-take, take_all, take_more}
use Rattle.std.proofs.lemmas.Slice.Eq.{bytes_eq-Decides}
use Rattle.std.proofs.Math.ListN.{drop_of_length-le}
use Rattle.short_text.specs.Words.{before_space, from_space, space_at, has_no_space}
use Rattle.short_text.proofs.SpaceLemmas.{NoSpace, all_at, passes, not_space}
use Rattle.short_text.proofs.SpaceLemmas.{space_here, space_farther}

-- `bytes_eq` answers false for texts that differ
differ : (xs ys : List ℕ) → (xs ≡ ys → ⊥) → bytes_eq xs ys ≡ false
differ xs ys other = by_test (bytes_eq xs ys) refl
  where
    by_test : (b : Bool) → bytes_eq xs ys ≡ b → bytes_eq xs ys ≡ false
    by_test true e = absurd (other ((bytes_eq-Decides xs ys).0 e))
    by_test false e = e

module _ (text word : List ℕ) where
  -- texts that begin alike do so up to the next place, if they are equal there
  pub alike_more : (k : ℕ) → k < length word → length word ≤ length text
      → take k text ≡ take k word → get_or text k 0 ≡ get_or word k 0
      → take (k + 1) text ≡ take (k + 1) word
  alike_more k lt few same at =
      take_more text k 0 (omega arith)
      ∙ ap (λ (front : List ℕ). front ++ get_or text k 0 ∷ []) same
      ∙ ap (λ (b : ℕ). take k word ++ b ∷ []) at
      ∙ sym (take_more word k 0 lt)

  -- a text begins with a word if they are equal up to the word's end
  pub alike_all : (k : ℕ) → k ≤ length word → length word ≤ k → take k text ≡ take k word
      → bytes_eq word (take (length word) text) ≡ true
  alike_all k within ends same =
      let whole : length word ≡ k = omega arith in
      (bytes_eq-Decides word (take (length word) text)).1
      (sym (take_all (length word) word (omega arith))
      ∙ ap (λ (n : ℕ). take n word) whole ∙ sym same ∙ ap (λ (n : ℕ). take n text) (sym whole))

  -- a text does not begin with a word if they differ at one of its places
  pub alike_not : (k : ℕ) → k < length word → (get_or text k 0 ≡ get_or word k 0 → ⊥)
      → bytes_eq word (take (length word) text) ≡ false
  alike_not k lt other =
      differ word (take (length word) text)
      (λ e. other (sym (ap (λ (w : List ℕ). get_or w k 0) e ∙ get_or-take (length word) text k 0 lt)))

  -- a text does not begin with a word if it is shorter
  pub alike_short : length text < length word → bytes_eq word (take (length word) text) ≡ false
  alike_short short =
      differ word (take (length word) text)
      (λ e. absurd (omega (arith, ap length e, length-take (length word) text)))

pub ruleset beginnings = (alike_more, alike_all, alike_not, alike_short)

module _ (text word : List ℕ) (whole : has_no_space word ≡ true) where
  -- a text that begins with a word has no space there
  begins : length word ≤ length text → bytes_eq word (take (length word) text) ≡ true
      → NoSpace text (length word)
  begins few same i lt =
      let at : get_or word i 0 ≡ get_or text i 0 =
      ap (λ (w : List ℕ). get_or w i 0) ((bytes_eq-Decides word (take (length word) text)).0 same)
      ∙ get_or-take (length word) text i 0 lt in
      passes (λ b. not (b == 32)) (get_or text i 0) refl
      (ap (λ b. not (b == 32)) (sym at) ∙ all_at (λ b. not (b == 32)) word i lt whole)

  -- a text is the word up to its first space, if a space or the end follows the word
  module _ (few : length word ≤ length text)
      (same : bytes_eq word (take (length word) text) ≡ true)
      (ends : length word < length text → (get_or text (length word) 0 == 32) ≡ true) where
    word_end : space_at text ≡ length word
    word_end = space_here text (length word) few (begins few same) ends

    pub word_found : bytes_eq (before_space text) word ≡ true
    word_found =
        (bytes_eq-Decides (before_space text) word).1
        (ap (λ (k : ℕ). take k text) word_end
        ∙ sym ((bytes_eq-Decides word (take (length word) text)).0 same))

    pub behind_found : drop (length word) text ≡ from_space text
    behind_found = ap (λ (k : ℕ). drop k text) (sym word_end)

  -- if the text ends with the word, nothing follows it
  pub none_behind_word : length word ≡ length text
      → bytes_eq word (take (length word) text) ≡ true → [] ≡ from_space text
  none_behind_word whole_text same =
      sym (drop_of_length-le text (omega arith))
      ∙ behind_found (omega arith) same (λ (lt : length word < length text). absurd (omega arith))

  -- if another byte follows the word, the text has a longer word
  pub word_longer : length word < length text → bytes_eq word (take (length word) text) ≡ true
      → (get_or text (length word) 0 ≡ 32 → ⊥) → bytes_eq (before_space text) word ≡ false
  word_longer lt same other =
      let farther : length word < space_at text =
      space_farther text (length word) lt (begins (omega arith) same)
      (not_space (get_or text (length word) 0) other) in
      differ (before_space text) word
      (λ e. absurd (omega (arith, ap length e, length-take (space_at text) text)))

-- a text that does not begin with a word is another one
pub word_other : (text word : List ℕ) → bytes_eq word (take (length word) text) ≡ false
    → bytes_eq (before_space text) word ≡ false
word_other text word none = differ (before_space text) word no_word
  where
    no_word : before_space text ≡ word → ⊥
    no_word e =
        let few : length word ≤ space_at text =
        omega (arith, ap length e, length-take (space_at text) text) in
        let front : take (length word) text ≡ word =
        sym (take-take (length word) (space_at text) text few) ∙ ap (take (length word)) e
        ∙ take_all (length word) word (omega arith) in
        true≢false
        (sym ((bytes_eq-Decides word (take (length word) text)).1 (sym front)) ∙ none)

pub ruleset words = (word_found, behind_found, word_longer, word_other)
