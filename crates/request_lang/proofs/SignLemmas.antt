-- What does a field spell that may begin with a `-`?
use Rattle.std.proofs.Common.{◌≡◌, ℕ, ◌<◌, ◌==◌}
use Rattle.std.proofs.Common.{Bool, true, false, List, [], ◌∷◌, length, take, drop, get_or}
use Rattle.std.proofs.Common.{Result, Ok, Err, refl, sym, ap, ◌∙◌, arith, true≢false}
use Rattle.std.specs.Prelude.{ℤ, pos, neg_ℤ}
use Rattle.std.proofs.lemmas.Bool.{eqb-true}
use Rattle.short_text.specs.Words.{before_space, from_space}
use Rattle.short_text.specs.Words.{cut}
use Rattle.request_lang.specs.LineField.{spelled, mapped, signed_within, number_within}
use Rattle.request_lang.specs.declared.cause.Cause.{Cause}
use Rattle.short_text.proofs.SpaceLemmas.{space_at-is, space_at_cons}

-- the first byte of a field is that of the text, or a space or the end
pub first_minus : (text : List ℕ)
    → (get_or (before_space text) 0 0 == 45) ≡ (get_or text 0 0 == 45)
first_minus [] = refl
first_minus (b ∷ text) = by_test (b == 32) refl
  where
    by_test : (t : Bool) → (b == 32) ≡ t
        → (get_or (before_space (b ∷ text)) 0 0 == 45) ≡ (b == 45)
    by_test true e = rw (space_at-is (b ∷ text), e) (sym (ap (λ c. c == 45) (eqb-true b 32 e)))
    by_test false e =
        ap (λ n. get_or (take n (b ∷ text)) 0 0 == 45) (space_at_cons b text e)

-- if a field begins with a `-`, it goes on after it
behind_minus : (text : List ℕ) → (get_or text 0 0 == 45) ≡ true
    → (drop 1 (before_space text) ≡ before_space (drop 1 text))
    × (from_space text ≡ from_space (drop 1 text))
behind_minus [] e = absurd (true≢false (sym e))
behind_minus (b ∷ text) e =
    let other : (b == 32) ≡ false = ap (λ c. c == 32) (eqb-true b 45 e) in
    let cons = space_at_cons b text other in (
      ap (λ n. drop 1 (take n (b ∷ text))) cons,
      ap (λ n. drop n (b ∷ text)) cons,
    )

-- what follows a value does not depend on what is made of the value
regroup : {A : Type 0} (f : ℕ → A) (r : Result ℕ Cause) (rest : List ℕ)
    → mapped {B = A × List ℕ} (λ v. (v, rest)) (mapped f r)
    ≡ mapped {B = A × List ℕ} (λ g. (f g.0, g.1)) (mapped {B = ℕ × List ℕ} (λ v. (v, rest)) r)
regroup f (Ok n) rest = refl
regroup f (Err cause) rest = refl

module _ (below above : ℕ) where
  minus_parts : (field rest more after : List ℕ) → (get_or field 0 0 == 45) ≡ true
      → drop 1 field ≡ more → rest ≡ after
      → mapped {B = ℤ × List ℕ} (λ v. (v, rest)) (signed_within below above field)
      ≡ mapped {B = ℤ × List ℕ} (λ g. (neg_ℤ (pos g.0), g.1))
      (mapped {B = ℕ × List ℕ} (λ v. (v, after)) (number_within 0 below more))
  minus_parts field rest more after e p q =
      rw (e, p, q) (regroup (λ n. neg_ℤ (pos n)) (number_within 0 below more) after)

  plain_parts : (field rest : List ℕ) → (get_or field 0 0 == 45) ≡ false
      → mapped {B = ℤ × List ℕ} (λ v. (v, rest)) (signed_within below above field)
      ≡ mapped {B = ℤ × List ℕ} (λ g. (pos g.0, g.1))
      (mapped {B = ℕ × List ℕ} (λ v. (v, rest)) (number_within 0 above field))
  plain_parts field rest e = rw e (regroup (λ n. pos n) (number_within 0 above field) rest)

  -- what a text spells up to its first space, with a leading `-` and without
  pub signed_minus : (text : List ℕ) → (get_or text 0 0 == 45) ≡ true
      → spelled (signed_within below above) (Ok (cut text))
      ≡ mapped {B = ℤ × List ℕ} (λ g. (neg_ℤ (pos g.0), g.1))
      (spelled (number_within 0 below) (Ok (cut (drop 1 text))))
  signed_minus text e =
      let behind = behind_minus text e in
      minus_parts (before_space text) (from_space text) _ _ (first_minus text ∙ e) behind.0 behind.1

  pub signed_plain : (text : List ℕ) → (get_or text 0 0 == 45) ≡ false
      → spelled (signed_within below above) (Ok (cut text))
      ≡ mapped {B = ℤ × List ℕ} (λ g. (pos g.0, g.1))
      (spelled (number_within 0 above) (Ok (cut text)))
  signed_plain text e = plain_parts (before_space text) (from_space text) (first_minus text ∙ e)

-- a text that begins with a byte is not empty
pub some_text : (text : List ℕ) → get_or text 0 0 ≡ 45 → 0 < length text
some_text [] e = absurd (omega arith)
some_text (b ∷ text) e = omega arith
