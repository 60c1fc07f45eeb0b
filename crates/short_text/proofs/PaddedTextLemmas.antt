-- What do padded texts come to, one digit or one value at a time?
use Rattle.std.proofs.Common.{◌≡◌, ℕ, suc, ◌+◌, ◌/◌, ◌%◌, ◌^◌, ◌<◌, ◌≤◌}
use Rattle.std.proofs.Common.{List, [], ◌∷◌, ◌++◌, length, take, set, get_or, refl, sym, ap}
use Rattle.std.proofs.Common.{◌∙◌, arith, append_assoc}
use Rattle.std.proofs.lemmas.Fmt.{decimal_digit, decimal_step, length-decimal-le}
use Rattle.std.proofs.lemmas.List.{take-set-le, take_more_set, length-take-le}
use Rattle.std.proofs.lemmas.List.{take_more, append-nil}
use Rattle.std.proofs.lemmas.List.Concat.{flat_map-append}
use Rattle.std.proofs.lemmas.Grind.{get_or-set_at}
use Rattle.std.proofs.lemmas.List.{length-set, take-append-le}
use Rattle.std.proofs.Math.Seq.{take-append-add}
use Rattle.std.specs.Fmt.{decimal}
use Rattle.short_text.specs.Words.{space}
use Rattle.short_text.specs.Number.{number_behind, fields}
use Rattle.short_text.specs.PaddedText.{IsPaddedText}

-- the padded text of one digit
pub one_digit_padded : (n : ℕ) → n < 10
    → IsPaddedText n (32 ∷ (48 + n) ∷ 0 ∷ 0 ∷ 0 ∷ 0 ∷ 0 ∷ 2 ∷ [])
one_digit_padded n few = record {
  text = ap (λ (xs : List ℕ). 32 ∷ xs) (sym (decimal_digit n few));
  few = omega arith;
  whole = refl;
}

-- how many bytes of a padded text count
pub padded_count : (n : ℕ) (padded : List ℕ) → IsPaddedText n padded
    → get_or padded 7 0 ≡ length (decimal n) + 1
padded_count n padded e =
    let few : get_or padded 7 0 ≤ 6 = e.few in
    let whole : length padded ≡ 8 = e.whole in
    sym (length-take-le (get_or padded 7 0) padded (omega arith)) ∙ ap length e.text ∙ add-one' (length (decimal n))
  where
    add-one' : (k : ℕ) → suc k ≡ k + 1
    add-one' k = omega arith

-- the padded text of a value of several digits, by that of its tenth
pub more_digits_padded : (n at : ℕ) (padded : List ℕ) → 10 ≤ n → n < 2 ^ 16
    → IsPaddedText (n / 10) padded → at ≡ get_or padded 7 0
    → IsPaddedText n (set (set padded at (48 + n % 10)) 7 (get_or padded 7 0 + 1))
more_digits_padded n at padded long small tenth is =
    let count : get_or padded 7 0 ≡ length (decimal (n / 10)) + 1 = padded_count (n / 10) padded tenth in
    let few : length (decimal (n / 10)) ≤ 4 =
    length-decimal-le 4 (n / 10) (omega arith) (omega arith) (omega arith) in
    let k : ℕ = get_or padded 7 0 in
    let longer : List ℕ = set padded k (48 + n % 10) in
    let whole : length padded ≡ 8 = tenth.whole in
    let size : length longer ≡ 8 = length-set padded k (48 + n % 10) ∙ whole in
    let here : get_or (set longer 7 (k + 1)) 7 0 ≡ k + 1 = get_or-set_at longer 7 7 (k + 1) 0 refl (omega arith) in
    let text : take (k + 1) (set longer 7 (k + 1)) ≡ number_behind space n =
    take-set-le (k + 1) longer 7 (k + 1) (omega arith)
    ∙ take_more_set padded k (48 + n % 10) (omega arith)
    ∙ ap (λ (xs : List ℕ). xs ++ (48 + n % 10) ∷ []) tenth.text
    ∙ ap (λ (xs : List ℕ). 32 ∷ xs) (sym (decimal_step n long (omega arith))) in
    rw is
    (record {
      text = ap (λ (i : ℕ). take i (set longer 7 (k + 1))) here ∙ text;
      few = omega (arith, here);
      whole = length-set longer 7 (k + 1) ∙ size;
    })

-- one more value in the buffer
pub one_value_more : (room padded rest before text : List ℕ) (at count : ℕ) → at ≤ length room
    → count ≤ length padded → take at room ≡ before → take count padded ≡ text
    → take (at + count) (take at room ++ padded ++ rest) ≡ before ++ text
one_value_more room padded rest before text at count within few so_far is =
    ap (take (at + count)) (append_assoc (take at room) padded rest)
    ∙ ap (λ (k : ℕ). take (k + count) (take at room ++ (padded ++ rest)))
    (sym (length-take-le at room within))
    ∙ take-append-add (take at room) (padded ++ rest) count
    ∙ ap (λ (ys : List ℕ). take at room ++ ys) (take-append-le count padded rest few ∙ is)
    ∙ ap (λ (xs : List ℕ). xs ++ text) so_far

-- one value more among the fields
pub fields_more : (values : List ℕ) (i : ℕ) → i < length values
    → fields (take (i + 1) values) ≡ fields (take i values) ++ number_behind space (get_or values i 0)
fields_more values i lt =
    ap fields (take_more values i 0 lt)
    ∙ flat_map-append (number_behind space) (take i values) (get_or values i 0 ∷ [])
    ∙ ap (λ (ys : List ℕ). fields (take i values) ++ ys)
    (append-nil (number_behind space (get_or values i 0)))
