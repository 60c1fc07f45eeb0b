-- What is at a place of the bytes of a file, part by part.
use Rattle.std.proofs.Common.{◌≡◌, ℕ, zero, suc, ◌+◌, ◌*◌, ◌^◌, ◌<◌, ◌≤◌, List, ◌++◌, length, false}
use Rattle.std.proofs.Common.{slice_index, refl, sym, ap, ◌∙◌, subst, arith, inl, inr}
use Rattle.std.specs.Int.{w16, w32, to_le_bytes}
use Rattle.std.proofs.lemmas.Bool.{cases_lt}
use Rattle.std.proofs.lemmas.List.{get_or_append_left, get_or-append-add, length-append}
use Rattle.tiff_format.specs.Bytes.{number_at, IsPartAt}
use Rattle.tiff_format.proofs.BytesOfParts.{number_of_part}
use Rattle.tex_make.specs.Joined.{joined}

-- the bytes at a place are this part
pub record Holds (bytes : List ℕ) (at : ℕ) (part : List ℕ) : Type 0 where
  pub each : IsPartAt bytes at part
  pub ends : at + length part ≤ length bytes

pub holds_all : (bytes : List ℕ) → Holds bytes 0 bytes
holds_all bytes = record {
  each = λ k low. ap (slice_index bytes) (let e : k ≡ 0 + k = omega arith in e);
  ends = omega arith;
}

-- ---- parts of parts

pub holds_left : (bytes a b : List ℕ) (at : ℕ) → Holds bytes at (a ++ b) → Holds bytes at a
holds_left bytes a b at is = record {
  each = λ k low.
      sym (get_or_append_left a b 0 k low) ∙ is.each k (omega (arith, low, length-append a b));
  ends = let all = is.ends in omega (arith, all, length-append a b);
}

pub holds_right : (bytes a b : List ℕ) (at next : ℕ) → next ≡ at + length a
    → Holds bytes at (a ++ b) → Holds bytes next b
holds_right bytes a b at next same is = record {
  each = λ k low.
      let there : at + (length a + k) ≡ next + k = omega (arith, same) in
      sym (get_or-append-add a b k 0)
      ∙ is.each (length a + k) (omega (arith, low, length-append a b))
      ∙ ap (slice_index bytes) there;
  ends = let all = is.ends in omega (arith, all, same, length-append a b);
}

pub holds_piece : (bytes : List ℕ) (piece : ℕ → List ℕ) (n i at : ℕ) → i < n
    → Holds bytes at (joined piece n) → Holds bytes (at + length (joined piece i)) (piece i)
holds_piece bytes piece zero i at below is = absurd (omega (arith, below))
holds_piece bytes piece (suc n) i at below is = elim (cases_lt i n) [
  | inl before ↦
      holds_piece bytes piece n i at before (holds_left bytes (joined piece n) (piece n) at is)
  | inr behind ↦
      let same : n ≡ i = omega (arith, below, behind) in
      subst (λ (k : ℕ). Holds bytes (at + length (joined piece k)) (piece k)) same
      (holds_right bytes (joined piece n) (piece n) at (at + length (joined piece n)) refl is)
]

-- pieces of one size
pub length_joined : (piece : ℕ → List ℕ) (size n : ℕ) → ((i : ℕ) → i < n → length (piece i) ≡ size)
    → length (joined piece n) ≡ n * size
length_joined piece size zero same = omega arith
length_joined piece size (suc n) same =
    let before = length_joined piece size n (λ i low. same i (omega (arith, low))) in
    let here = same n (omega arith) in
    omega (arith, before, here, length-append (joined piece n) (piece n))

pub holds_equal : (bytes : List ℕ) (piece : ℕ → List ℕ) (size n i at : ℕ) → i < n
    → ((i : ℕ) → i < n → length (piece i) ≡ size)
    → Holds bytes at (joined piece n) → Holds bytes (at + i * size) (piece i)
holds_equal bytes piece size n i at below same is =
    subst (λ (k : ℕ). Holds bytes (at + k) (piece i))
    (length_joined piece size i (λ j low. same j (omega (arith, low, below))))
    (holds_piece bytes piece n i at below is)

-- ---- numbers

own_two : (n : ℕ) → n < 2 ^ 16 → number_at false 2 (to_le_bytes w16 n) 0 ≡ n
unfolding number_at
own_two n low = omega arith

own_four : (n : ℕ) → n < 2 ^ 32 → number_at false 4 (to_le_bytes w32 n) 0 ≡ n
unfolding number_at
own_four n low = omega arith

pub two_bytes : (bytes : List ℕ) (at n : ℕ) → n < 2 ^ 16 → Holds bytes at (to_le_bytes w16 n)
    → number_at false 2 bytes at ≡ n
two_bytes bytes at n low is =
    let same : at ≡ at + 0 = omega arith in
    ap (number_at false 2 bytes) same
    ∙ sym (number_of_part false 2 0 at bytes (to_le_bytes w16 n) is.each (omega arith))
    ∙ own_two n low

pub four_bytes : (bytes : List ℕ) (at n : ℕ) → n < 2 ^ 32 → Holds bytes at (to_le_bytes w32 n)
    → number_at false 4 bytes at ≡ n
four_bytes bytes at n low is =
    let same : at ≡ at + 0 = omega arith in
    ap (number_at false 4 bytes) same
    ∙ sym (number_of_part false 4 0 at bytes (to_le_bytes w32 n) is.each (omega arith))
    ∙ own_four n low
