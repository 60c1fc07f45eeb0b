-- The tag of a share and a cut names them.
use Rattle.std.proofs.Common.{◌≡◌, ℕ, ◌+◌, ◌*◌, ◌/◌, ◌%◌, ◌≤◌, Bool, true, false, arith}
use Rattle.std.specs.Prelude.{◌==◌, if◌then◌else◌}
use Rattle.std.proofs.lemmas.Bool.Decides.{nat_tests}
use Rattle.tiff_format.specs.declared.cut.Cut.{Cut}
use Rattle.tiff_format.specs.Cut.{IsCut}
use Rattle.tile_store.specs.Tag.{tag_of, share_in_tag, cut_of}

-- 1 for a cut with generated levels, else 0
abbrev bit_of : Bool → ℕ
bit_of b = if b then 1 else 0

few : (b : Bool) → bit_of b ≤ 1
few true = omega arith
few false = omega arith

pub share_of-tag_of : (share : ℕ) (cut : Cut) → IsCut cut → share_in_tag (tag_of share cut) ≡ share
unfolding share_in_tag tag_of
share_of-tag_of share cut valid = omega (arith, few cut.automip, valid.high)

side : (share a m : ℕ) → a % 16 ≡ 0 → a ≤ 4096 → m ≤ 1
    → 16 * ((1024 * share + 2 * (a / 16) + m) % 1024 / 2) ≡ a
side share a m multiple high small = omega arith

odd : (share q : ℕ) (b : Bool) → ((1024 * share + 2 * q + bit_of b) % 2 == 1) ≡ b
odd share q true = grind (arith, nat_tests)
odd share q false = grind (arith, nat_tests)

pub cut_of-tag_of : (share : ℕ) (cut : Cut) → IsCut cut → cut_of (tag_of share cut) ≡ cut
unfolding cut_of tag_of
cut_of-tag_of share cut valid = λ i. record {
  autotile = side share cut.autotile (bit_of cut.automip) valid.multiple valid.high
      (few cut.automip) i;
  automip = odd share (cut.autotile / 16) cut.automip i;
}
