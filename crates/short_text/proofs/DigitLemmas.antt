-- What do the first digits of a text spell?
use Rattle.std.proofs.Common.{◌≡◌, ℕ, ◌+◌, ◌-◌, ◌*◌, ◌^◌, ◌<◌, ◌≤◌, ◌&&◌, ◌⊎◌, inl, inr}
use Rattle.std.proofs.Common.{Bool, true, false, List, [], ◌∷◌, length, take, get_or}
use Rattle.std.proofs.Common.{Some, None, refl, sym, ap, ◌∙◌, arith}
use Rattle.std.specs.Char.{is_ascii_digit}
use Rattle.std.specs.Prelude.{fold}
use Rattle.std.specs.List.{list_all}
use Rattle.std.proofs.lemmas.Bool.{cases_lt, lt-ltb, lt-leb, le-leb}
use Rattle.std.proofs.lemmas.List.{take_all}
use Rattle.std.proofs.lemmas.List.Folds.{list_all_at}
use Rattle.short_text.specs.Digits.{digits_number}
use Rattle.short_text.specs.Digits.{LeadsWith}
use Rattle.std.proofs.lemmas.Grind.{pow_more}
use Rattle.std.proofs.Math.Nat.{pow-le-pow_right}
use Rattle.short_text.specs.Digits.{max_digits}

-- a number of this many digits fits 64 bits
pub digit_fits : (n i : ℕ) → n < 10 ^ i → i < max_digits → n * 10 + 9 < 2 ^ 64
digit_fits n i below few =
    let most : 10 ^ (i + 1) ≤ 10 ^ max_digits =
    pow-le-pow_right {n = 10} (omega arith) {i = i + 1} {j = max_digits} (omega arith) in
    omega (arith, pow_more 10 i)

-- the word `and` of a false test
and_false : (a : Bool) → (a && false) ≡ false
and_false true = refl
and_false false = refl

-- no digits spell no number, nor do too many, nor does a text with another byte
none_empty : digits_number [] ≡ None
unfolding digits_number
none_empty = refl

none_long : (text : List ℕ) → max_digits < length text → digits_number text ≡ None
unfolding digits_number
none_long text many = rw (lt-leb (length text) max_digits many, and_false) refl

none_other : (text : List ℕ) (k : ℕ) → k < length text
    → is_ascii_digit (get_or text k 0) ≡ false → digits_number text ≡ None
unfolding digits_number
none_other text k lt other =
    rw (list_all_at is_ascii_digit text k 0 lt other, and_false, and_false) refl

-- what digits alone spell
pub all_spelled : (text : List ℕ) (n k : ℕ) → LeadsWith text n k → 0 < k → length text ≤ k
    → digits_number text ≡ Some n
unfolding digits_number
all_spelled text n k leads some all =
    let whole : take k text ≡ text = take_all k text all in
    let digits : list_all is_ascii_digit text ≡ true =
    ap (list_all is_ascii_digit) (sym whole) ∙ leads.digits in
    let within : k ≤ length text = leads.within in
    let few : k ≤ 10 = leads.few in
    let spelled : fold (λ m digit. m * 10 + (digit - 48)) 0 text ≡ n =
    ap (fold (λ m digit. m * 10 + (digit - 48)) 0) (sym whole) ∙ sym leads.spelled in
    rw (lt-ltb 0 (length text) (omega arith), le-leb (length text) 10 (omega arith), digits)
    (ap (λ (m : ℕ). Some m) spelled)

-- what is no digits, or more than was read
pub not_spelled : (text : List ℕ) (n k : ℕ) → LeadsWith text n k → (k ≡ 0) ⊎ (k < length text)
    → digits_number text ≡ None
not_spelled text n k leads (inl none) = by_text text leads
  where
    by_text : (t : List ℕ) → LeadsWith t n k → digits_number t ≡ None
    by_text [] l = none_empty
    by_text (b ∷ t) l = none_other (b ∷ t) k (omega arith) (l.stop (omega arith) (omega arith))
not_spelled text n k leads (inr more) = elim (cases_lt k max_digits) [
  | inl few ↦ none_other text k more (leads.stop more few)
  | inr many ↦ none_long text (omega arith)
]
