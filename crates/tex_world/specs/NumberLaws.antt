-- Why is a name's number the place of the name in the list, and why is a name without a number not
-- in the list?
use Rattle.std.specs.Prelude.{◌≡◌, ◌≢◌, ℕ, ◌<◌, ◌≤◌, List, [], Some, None}
use Rattle.std.specs.Str.{bytes_eq}
use Rattle.std.specs.Cmp.Lexicographic.{bytes_decides}
use Rattle.std.proofs.Common.{length, get_or, false, sym, arith}
use Rattle.std.proofs.lemmas.Grind.{common_steps}
use Rattle.std.proofs.lemmas.List.Quantifiers.{position-Some}
use Rattle.std.proofs.lemmas.List.Sums.{position_or_len_is, fails_before_first}
use Rattle.std.specs.List.{position_or_len}
use Rattle.tex_world.specs.Number.{number_in}

-- `bytes_eq` answers false for texts that differ
told_apart : (xs ys : List ℕ) → xs ≢ ys → bytes_eq xs ys ≡ false
told_apart xs ys other = let decides = bytes_decides xs ys in grind (arith, decides.0)

module _ (names : List (List ℕ)) (name : List ℕ) where
  -- The name is in the list at its number.
  pub stands_at_number : (n : ℕ) → number_in names name ≡ Some n
      → (n < length names) × (get_or names n [] ≡ name)
  stands_at_number n found =
      let at = position-Some (bytes_eq name) names n [] found in
      (at.0, sym ((bytes_decides name (get_or names n [])).0 at.1))

  -- A name without a number is not in the list.
  pub stands_nowhere : number_in names name ≡ None
      → (n : ℕ) → n < length names → get_or names n [] ≢ name
  stands_nowhere none n low same =
      let first = position_or_len (bytes_eq name) names in
      let past : length names ≤ first = grind (arith, common_steps) in
      let here = (bytes_decides name (get_or names n [])).1 (sym same) in
      let other = fails_before_first (bytes_eq name) names n [] (omega (arith, low, past)) in
      cc

  -- A name in the list has a number: its first place.
  pub number_where : (n : ℕ) → n < length names → get_or names n [] ≡ name
      → ((k : ℕ) → k < n → get_or names k [] ≢ name) → number_in names name ≡ Some n
  number_where n low same before =
      let at = position_or_len_is (bytes_eq name) names n [] (omega (arith, low))
      (λ k h. told_apart name (get_or names k []) (λ e. before k h (sym e)))
      (λ _. (bytes_decides name (get_or names n [])).1 (sym same)) in
      grind (arith, common_steps, at)

  -- A name that is not in the list has no number.
  pub no_number_where : ((k : ℕ) → k < length names → get_or names k [] ≢ name)
      → number_in names name ≡ None
  no_number_where nowhere =
      let at = position_or_len_is (bytes_eq name) names (length names) [] (omega arith)
      (λ k h. told_apart name (get_or names k []) (λ e. nowhere k h (sym e)))
      (λ h. absurd (omega (arith, h))) in
      grind (arith, common_steps, at)
