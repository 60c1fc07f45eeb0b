-- The white rule, applied block by block with a mask.
use Rattle.std.specs.Prelude.{◌==◌, ◌&&◌, not}
use Rattle.std.proofs.Common.{◌≡◌, ℕ, ◌+◌, ◌-◌, ◌*◌, ◌^◌, ◌<◌, ◌≤◌, Bool, List, length, get_or, min}
use Rattle.std.proofs.Common.{true, false, arith, ◌∙◌, inl, inr, bit_xor, bit_and, ap, sym, take, ◌++◌}
use Rattle.std.proofs.lemmas.Bool.{cases_lt}
use Rattle.std.proofs.lemmas.List.{get_or-take, length-take, length-take-le}
use Rattle.std.proofs.lemmas.Nat.{and_mask}
use Rattle.std.proofs.Math.ListN.{get_or-append}
use Rattle.std.proofs.Math.Nat.{mod-eq_of_lt, mul-add-mod_self_right, mul_assoc}
use Rattle.std.specs.Int.Bits.{xor_add_and, xor_zero_r}
use Rattle.tiff_format.specs.Texel.{greatest_sample, unwhite}
use Rattle.unpack.specs.Passes.{AreLow, AreUnwhite, IsWhiteMask}
use Rattle.unpack.specs.Sample.{depth_of, is_white}
use Rattle.unpack.proofs.Pixels.{FollowTo}

-- ---- a mask, made of zeros

-- the front of zeros is low
pub blank_low : (wide : Bool) (n : ℕ) (xs : List ℕ)
    → ((k : ℕ) → k < length xs → get_or xs k 0 ≡ 0)
    → (k : ℕ) → k < length (take n xs) → get_or (take n xs) k 0 ≤ greatest_sample (depth_of wide)
blank_low wide n xs blank k lt =
    let front = length-take n xs in
    let zero : get_or (take n xs) k 0 ≡ 0 =
    get_or-take n xs k 0 (omega (arith, front)) ∙ blank k (omega (arith, front)) in
    omega (arith, zero)

-- inverting white turns zeros into a mask
pub mask_made : (wide : Bool) (channels n : ℕ) (xs new rest : List ℕ)
    → n ≤ length xs → length new ≡ length (take n xs)
    → ((k : ℕ) → k < length xs → get_or xs k 0 ≡ 0)
    → AreUnwhite wide channels (take n xs) new
    → IsWhiteMask wide channels n (new ++ rest)
mask_made wide channels n xs new rest room long blank rule k lt =
    let front = length-take-le n xs room in
    get_or-append new rest 0 k (omega (arith, long, front))
    ∙ rule k (omega (arith, front))
    ∙ ap (λ x. unwhite (is_white channels k) (depth_of wide) x)
    (get_or-take n xs k 0 lt ∙ blank k (omega arith))

-- ---- a mask, applied

-- to flip all bits of a number is to take it from all ones
flip_all : (d x : ℕ) → x < 2 ^ d → bit_xor x (2 ^ d - 1) ≡ 2 ^ d - 1 - x
flip_all d x low =
    let whole : bit_and x (2 ^ d - 1) ≡ x = and_mask x d ∙ mod-eq_of_lt low in
    let both = xor_add_and x (2 ^ d - 1) in
    omega (arith, whole, both)

-- to flip a mask's bits is the white rule
flip_white : (wide white : Bool) (x : ℕ) → x ≤ greatest_sample (depth_of wide)
    → bit_xor x (unwhite white (depth_of wide) 0) ≡ unwhite white (depth_of wide) x
flip_white true true x low = flip_all 16 x (omega arith)
flip_white false true x low = flip_all 8 x (omega arith)
flip_white true false x low = xor_zero_r x
flip_white false false x low = xor_zero_r x

-- whole pixels on, the channels are the same
white_again : (channels n k : ℕ) → is_white channels (n * channels + k) ≡ is_white channels k
white_again channels n k =
    ap (λ r. not (channels == 0) && (r == 0)) (mul-add-mod_self_right n channels k)

-- a sample of a block
in_block : (wide : Bool) (channels pixels n j k x : ℕ) (mask : List ℕ)
    → x ≤ greatest_sample (depth_of wide)
    → IsWhiteMask wide channels (pixels * channels) mask → j < pixels * channels
    → n * (pixels * channels) + j ≡ k
    → bit_xor x (get_or mask j 0) ≡ unwhite (is_white channels k) (depth_of wide) x
in_block wide channels pixels n j k x mask low is_mask lt place =
    let white : is_white channels k ≡ is_white channels j =
    sym (ap (λ i. is_white channels i)
    (ap (λ m. m + j) (mul_assoc n pixels channels) ∙ place))
    ∙ white_again channels (n * pixels) j in
    ap (λ m. bit_xor x m) (is_mask j lt)
    ∙ flip_white wide (is_white channels j) x low
    ∙ sym (ap (λ w. unwhite w (depth_of wide) x) white)

-- a sample after earlier blocks: which one of the next block it is
next_sample : (wide : Bool) (channels pixels n end k : ℕ) (old new next mask : List ℕ)
    → AreLow wide old → IsWhiteMask wide channels (pixels * channels) mask
    → k < length old → k < end → n * (pixels * channels) ≤ k
    → k - n * (pixels * channels) < pixels * channels
    → ((j : ℕ) → n * (pixels * channels) + j < end
    → get_or next (n * (pixels * channels) + j) 0
    ≡ bit_xor (get_or new (n * (pixels * channels) + j) 0) (get_or mask j 0))
    → get_or new k 0 ≡ get_or old k 0
    → get_or next k 0 ≡ unwhite (is_white channels k) (depth_of wide) (get_or old k 0)
next_sample wide channels pixels n end k old new next mask low is_mask inside lt ge short within same =
    let place : n * (pixels * channels) + (k - n * (pixels * channels)) ≡ k = omega arith in
    ap (λ i. get_or next i 0) (sym place)
    ∙ within (k - n * (pixels * channels)) (omega arith)
    ∙ ap (λ i. bit_xor (get_or new i 0) (get_or mask (k - n * (pixels * channels)) 0)) place
    ∙ ap (λ x. bit_xor x (get_or mask (k - n * (pixels * channels)) 0)) same
    ∙ in_block wide channels pixels n (k - n * (pixels * channels)) k (get_or old k 0) mask
    (low k inside) is_mask short place

-- one block more
pub block_more : (wide : Bool) (channels pixels n end : ℕ) (old new next mask : List ℕ)
    → AreLow wide old → IsWhiteMask wide channels (pixels * channels) mask
    → end ≡ n * (pixels * channels)
    + min (pixels * channels) (length old - n * (pixels * channels))
    → ((k : ℕ) → k < n * (pixels * channels) → get_or next k 0 ≡ get_or new k 0)
    → ((j : ℕ) → n * (pixels * channels) + j < end
    → get_or next (n * (pixels * channels) + j) 0
    ≡ bit_xor (get_or new (n * (pixels * channels) + j) 0) (get_or mask j 0))
    → ((k : ℕ) → end ≤ k → get_or next k 0 ≡ get_or new k 0)
    → FollowTo (depth_of wide) channels (n * (pixels * channels)) old new
    → FollowTo (depth_of wide) channels ((n + 1) * (pixels * channels)) old next
block_more wide channels pixels n end old new next mask low is_mask ends before within behind
    done = record {
      below = λ k inside lt. elim (cases_lt k (n * (pixels * channels))) [
        | inl lower ↦ before k lower ∙ done.below k inside lower
        | inr ge ↦ next_sample wide channels pixels n end k old new next mask low is_mask inside
            (omega (arith, ends)) ge (omega arith) within (done.above k ge)
      ];
      above = λ k ge. behind k (omega (arith, ends)) ∙ done.above k (omega arith);
    }
