-- What does a field spell that begins with digits?
use Rattle.std.proofs.Common.{◌≡◌, ℕ, ◌+◌, ◌-◌, ◌*◌, ◌<◌, ◌≤◌, ◌==◌, inl, inr}
use Rattle.std.proofs.Common.{List, [], length, take, drop, get_or}
use Rattle.std.proofs.Common.{Some, None, sym, ap, ◌∙◌, arith}
use Rattle.std.specs.Char.{is_ascii_digit}
use Rattle.std.specs.Prelude.{fold, min}
use Rattle.std.specs.List.{list_all}
use Rattle.std.proofs.lemmas.List.{get_or-take, take-take, length-take}
use Rattle.std.proofs.Math.ListN.{drop_of_length-le}
use Rattle.short_text.specs.Words.{before_space, from_space, space_at}
use Rattle.short_text.specs.Digits.{digits_number}
use Rattle.short_text.specs.Digits.{LeadsWith}
use Rattle.short_text.proofs.SpaceLemmas.{not_space, digits_only, NoSpace}
use Rattle.short_text.proofs.SpaceLemmas.{space_behind, space_farther, space_here}
use Rattle.short_text.proofs.DigitLemmas.{all_spelled, not_spelled}

-- how long it is
length_field : (text : List ℕ) → length (before_space text) ≡ min (space_at text) (length text)
length_field text = length-take (space_at text) text

-- the digits that a text leads with are no spaces
leads_on : (text : List ℕ) (n k : ℕ) → LeadsWith text n k → NoSpace text k
leads_on text n k leads =
    let within : k ≤ length text = leads.within in
    digits_only text k within leads.digits

-- what a text leads with is what its first field does
field_leads : (text : List ℕ) (n k : ℕ) → LeadsWith text n k → LeadsWith (before_space text) n k
field_leads text n k leads =
    let within : k ≤ length text = leads.within in
    let behind : k ≤ space_at text = space_behind text k within (leads_on text n k leads) in
    let same : take k (before_space text) ≡ take k text =
    take-take k (space_at text) text behind in
    record {
      within = omega (arith, length_field text);
      few = leads.few;
      digits = ap (list_all is_ascii_digit) same ∙ leads.digits;
      spelled = leads.spelled ∙ ap (fold (λ m digit. m * 10 + (digit - 48)) 0) (sym same);
      stop = λ more few. ap is_ascii_digit
          (get_or-take (space_at text) text k 0 (omega (arith, length_field text)))
          ∙ leads.stop (omega (arith, length_field text)) few;
    }

module _ (text : List ℕ) (n k : ℕ) (leads : LeadsWith text n k) where
  -- without a digit it is no number
  pub field_empty : k ≡ 0 → digits_number (before_space text) ≡ None
  field_empty none = not_spelled (before_space text) n k (field_leads text n k leads) (inl none)

  -- digits to the end
  pub field_whole : 0 < k → k ≡ length text → digits_number (before_space text) ≡ Some n
  field_whole some whole =
      all_spelled (before_space text) n k (field_leads text n k leads) some
      (omega (arith, length_field text))

  pub none_behind : k ≡ length text → [] ≡ from_space text
  none_behind whole =
      let within : k ≤ length text = leads.within in
      let behind : k ≤ space_at text = space_behind text k within (leads_on text n k leads) in
      sym (drop_of_length-le text (omega arith))

  -- digits, and then another byte
  pub field_other : k < length text → (get_or text k 0 ≡ 32 → ⊥)
      → digits_number (before_space text) ≡ None
  field_other lt other =
      let farther : k < space_at text =
      space_farther text k lt (leads_on text n k leads) (not_space (get_or text k 0) other) in
      not_spelled (before_space text) n k (field_leads text n k leads)
      (inr (omega (arith, length_field text)))

  -- digits, and then a space
  first_space : k < length text → get_or text k 0 ≡ 32 → space_at text ≡ k
  first_space lt space =
      let within : k ≤ length text = leads.within in
      space_here text k within (leads_on text n k leads) (λ _. ap (λ b. b == 32) space)

  pub field_spelled : 0 < k → k < length text → get_or text k 0 ≡ 32
      → digits_number (before_space text) ≡ Some n
  field_spelled some lt space =
      let here : space_at text ≡ k = first_space lt space in
      all_spelled (before_space text) n k (field_leads text n k leads) some
      (omega (arith, length_field text))

  pub rest_behind : k < length text → get_or text k 0 ≡ 32 → drop k text ≡ from_space text
  rest_behind lt space =
      ap (λ (i : ℕ). drop i text)
      (sym (first_space lt space))
