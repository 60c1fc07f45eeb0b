-- The white rule, applied pixel by pixel.
use Rattle.std.proofs.Common.{◌≡◌, ℕ, ◌+◌, ◌-◌, ◌*◌, ◌%◌, ◌<◌, ◌≤◌, List, length, get_or, set}
use Rattle.std.proofs.Common.{true, false, arith, ◌∙◌, inl, inr}
use Rattle.std.proofs.lemmas.Bool.{cases_order, and_from, and_right, ne_eqb, eq-eqb, not_from_false}
use Rattle.std.proofs.lemmas.List.{get_or-set_other, get_or-set_same}
use Rattle.std.proofs.lemmas.Nat.{mod-mul-add}
use Rattle.std.proofs.Math.Nat.{mul-mod_left}
use Rattle.tiff_format.specs.Texel.{greatest_sample, unwhite}
use Rattle.unpack.specs.Sample.{is_white}

-- the samples before a place are inverted as they must be, and those after it are unchanged
pub record FollowTo (depth channels place : ℕ) (old new : List ℕ) : Type 0 where
  pub below : (k : ℕ) → k < length old → k < place
      → get_or new k 0 ≡ unwhite (is_white channels k) depth (get_or old k 0)
  pub above : (k : ℕ) → place ≤ k → get_or new k 0 ≡ get_or old k 0

-- the first sample of a pixel is of channel 0
white_first : (channels n : ℕ) → 0 < channels → is_white channels (n * channels) ≡ true
white_first channels n some =
    and_from _ _ (not_from_false _ (ne_eqb channels 0 (λ e. omega arith)))
    (eq-eqb _ 0 (mul-mod_left n channels))

-- the samples of other channels are not inverted
white_other : (channels n k : ℕ) → n * channels < k → k < n * channels + channels
    → is_white channels k ≡ false
white_other channels n k low high =
    let split : n * channels + (k - n * channels) ≡ k = omega arith in
    let place = rw split at (mod-mul-add n channels (k - n * channels) (omega arith)) in
    and_right _ _ (ne_eqb (k % channels) 0 (λ e. omega (arith, place)))

-- one pixel more
pub pixel_more : (depth channels n v : ℕ) (old new : List ℕ) → 0 < channels
    → n * channels < length new → v ≡ greatest_sample depth - get_or new (n * channels) 0
    → FollowTo depth channels (n * channels) old new
    → FollowTo depth channels ((n + 1) * channels) old (set new (n * channels) v)
pixel_more depth channels n v old new some inside is before = record {
  below = λ k within lt. elim (cases_order k (n * channels)) [
    | inl here ↦
        let white = white_first channels n some in
        let same = before.above (n * channels) (omega arith) in
        rw (here, white, ← same) (get_or-set_same new (n * channels) v 0 inside ∙ is)
    | inr (inl lower) ↦ get_or-set_other new (n * channels) k v 0 (omega arith)
        ∙ before.below k within lower
    | inr (inr higher) ↦
        let other = white_other channels n k higher (omega arith) in
        rw other (get_or-set_other new (n * channels) k v 0 (omega arith)
        ∙ before.above k (omega arith))
  ];
  above = λ k ge. get_or-set_other new (n * channels) k v 0 (omega arith)
      ∙ before.above k (omega arith);
}
