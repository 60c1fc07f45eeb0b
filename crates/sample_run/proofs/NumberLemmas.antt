-- What does the text of a number spell?
use Rattle.std.proofs.Common.{◌≡◌, ℕ, suc, ◌+◌, ◌-◌, ◌*◌, ◌/◌, ◌%◌, ◌^◌, ◌<◌, ◌≤◌, ◌==◌}
use Rattle.std.proofs.Common.{true, false, List, [], ◌∷◌, ◌++◌, length, get_or, Some, Ok, fold}
use Rattle.std.proofs.Common.{refl, ap, ◌∙◌, arith}
use Rattle.std.specs.Prelude.{ℤ, pos, negsuc, decimal, nat_lt, nat_le}
use Rattle.std.specs.Fmt.{signed_decimal}
use Rattle.std.specs.Char.{is_ascii_digit}
use Rattle.std.specs.List.{list_all}
use Rattle.std.proofs.lemmas.Bool.{and_from, and_parts, lt-ltb, le-leb, leb-true, ne_eqb}
use Rattle.std.proofs.lemmas.List.Sums.{fold-append, AllPass-from_list_all}
use Rattle.std.proofs.lemmas.List.Folds.{list_all-append}
use Rattle.std.proofs.lemmas.Fmt.{decimal_by_steps, length-decimal-le, decimal_nonempty}
use Rattle.short_text.specs.Digits.{digits_number}
use Rattle.request_lang.specs.LineField.{number_within, signed}
use Rattle.request_lang.specs.LineField.{max_above, max_below}
use Rattle.sample_run.proofs.PlainLemmas.{ArePlain}

-- ---- digits

-- what digits spell
abbrev pub spelled : List ℕ → ℕ
spelled text = fold (λ n digit. n * 10 + (digit - 48)) 0 text

-- a digit
digit : (n : ℕ) → n < 10 → is_ascii_digit (48 + n) ≡ true
digit n low =
    and_from (nat_le 48 (48 + n)) (nat_le (48 + n) 57) (le-leb 48 (48 + n) (omega arith))
    (le-leb (48 + n) 57 (omega arith))

-- the bytes are digits that make this number
abbrev Spells : ℕ → List ℕ → Type 0
Spells n text = (list_all is_ascii_digit text ≡ true) × (spelled text ≡ n)

one_digit : (n : ℕ) → n < 10 → Spells n ((48 + n) ∷ [])
one_digit n low = (and_from _ _ (digit n low) refl, omega arith)

digit_more : (n : ℕ) (text : List ℕ) → 10 ≤ n → Spells (n / 10) text
    → Spells n (text ++ ((48 + n % 10) ∷ []))
digit_more n text high before = (
  list_all-append is_ascii_digit text ((48 + n % 10) ∷ [])
      ∙ and_from _ _ before.0 (and_from _ _ (digit (n % 10) (omega arith)) refl),
  fold-append (λ m d. m * 10 + (d - 48)) 0 text ((48 + n % 10) ∷ [])
      ∙ ap (λ m. m * 10 + (48 + n % 10 - 48)) before.1
      ∙ omega arith,
)

pub decimal_spells : (n : ℕ) → n < 2 ^ 64
    → (list_all is_ascii_digit (decimal n) ≡ true) × (spelled (decimal n) ≡ n)
decimal_spells n low = decimal_by_steps Spells one_digit digit_more n low

-- ---- bytes

-- digits are bytes of a word
digits_plain : (text : List ℕ) → list_all is_ascii_digit text ≡ true → ArePlain text
digits_plain [] e = refl
digits_plain (b ∷ text) e =
    let parts = and_parts (is_ascii_digit b) (list_all is_ascii_digit text) e in
    let range = and_parts (nat_le 48 b) (nat_le b 57) parts.0 in
    let low : 48 ≤ b = leb-true 48 b range.0 in
    let high : b ≤ 57 = leb-true b 57 range.1 in
    and_from _ _
    (and_from (nat_lt 32 b) (nat_lt b 128) (lt-ltb 32 b (omega arith)) (lt-ltb b 128 (omega arith)))
    (digits_plain text parts.1)

pub decimal_plain : (n : ℕ) → n < 2 ^ 64 → ArePlain (decimal n)
decimal_plain n low = digits_plain (decimal n) (decimal_spells n low).0

-- the first byte is no `-`
no_minus : (n : ℕ) → n < 2 ^ 64 → (get_or (decimal n) 0 0 == 45) ≡ false
no_minus n low =
    let first = get_or (decimal n) 0 0 in
    let digits = (decimal_spells n low).0 in
    let e =
    AllPass-from_list_all is_ascii_digit (decimal n) digits 0 0 (decimal_nonempty n low) in
    let high : 48 ≤ first = leb-true 48 first (and_parts (nat_le 48 first) (nat_le first 57) e).0 in
    ne_eqb first 45 (λ same. absurd (omega (arith, high, same)))

-- ---- fields

-- the digits of a number spell it
pub decimal_number : (n : ℕ) → n < 10 ^ 10 → digits_number (decimal n) ≡ Some n
unfolding digits_number
decimal_number n low =
    let small : n < 2 ^ 64 = omega arith in
    let spells = decimal_spells n small in
    let some : 0 < length (decimal n) = decimal_nonempty n small in
    let few : length (decimal n) ≤ 10 = length-decimal-le 10 n (omega arith) low small in
    rw (lt-ltb 0 (length (decimal n)) some, le-leb (length (decimal n)) 10 few, spells.0)
    (ap (λ (m : ℕ). Some m) spells.1)

-- the decimal text of a number is read as the number, if it is in the range
pub decimal_within : (least most n : ℕ) → n < 10 ^ 10 → least ≤ n → n ≤ most
    → number_within least most (decimal n) ≡ Ok n
unfolding number_within
decimal_within least most n low above below =
    rw (decimal_number n low, le-leb least n above, le-leb n most below) refl

-- a number of 32 bits
abbrev pub IsSigned : ℤ → Type 0
IsSigned (pos n) = n ≤ max_above
IsSigned (negsuc n) = n < max_below

-- the text of a signed number spells it
pub signed_number : (z : ℤ) → IsSigned z → signed (signed_decimal z) ≡ Ok z
unfolding signed
signed_number (pos n) range =
    let low : n < 10 ^ 10 = omega (arith, range) in
    rw (no_minus n (omega (arith, low)), decimal_within 0 max_above n low (omega arith) range) refl
signed_number (negsuc n) range =
    let low : suc n < 10 ^ 10 = omega (arith, range) in
    rw (decimal_within 0 max_below (suc n) low (omega arith) (omega (arith, range))) refl

-- the text of a signed number has no space
pub signed_plain : (z : ℤ) → IsSigned z → ArePlain (signed_decimal z)
signed_plain (pos n) range = decimal_plain n (omega (arith, range))
signed_plain (negsuc n) range = and_from _ _ refl (decimal_plain (suc n) (omega (arith, range)))
