-- The samples of a row that was read are those of the level's texels.
use Rattle.std.proofs.Common.{◌≡◌, ℕ, ◌+◌, ◌-◌, ◌*◌, ◌/◌, ◌%◌, ◌<◌, ◌++◌, min, List, length, get_or}
use Rattle.std.proofs.Common.{Option, None, Some, IsSome, IsSomeAnd, refl, sym, ap, subst, ◌∙◌, arith}
use Rattle.std.proofs.Common.{◌≤◌, replicate}
use Rattle.std.specs.Option.{ForSome}
use Rattle.std.proofs.lemmas.List.{get_or_append_left}
use Rattle.std.proofs.lemmas.List.Elements.{All-replicate}
use Rattle.std.proofs.lemmas.Nat.{mul-add-lt}
use Rattle.tiff_format.specs.Texel.{sample_in, greatest_sample}
use Rattle.tile_layout.specs.Blocks.{HoldsBlocks}
use Rattle.tile_layout.specs.Cell.{bit_depth_in, bit_depth_of}
use Rattle.tile_layout.specs.Kept.{Kept, kept_of, stored_count, level_in}
use Rattle.tile_layout.specs.Texel.{texel_at, AreTexelsOn, FitDepth}
use Rattle.tile_layout.proofs.StoredTexels.{texel_stored, holds_level}
use Rattle.piece_samples.specs.Beyond.{CountAsZero}
use Rattle.piece_samples.specs.LayoutOf.{IsLayoutOf}
use Rattle.piece_samples.specs.TexelRow.{row_rect}
use Rattle.piece_samples.proofs.LowSamples.{each_low}
use Rattle.tile_slots.specs.RowPart.{IsTexelSample}
use Rattle.tile_slots.specs.Slot.{AreRowZeros}

-- ---- a row that was read to the front of its buffer

module _ (layout : Kept) (l x y n : ℕ) (samples rest : List ℕ)
    (long : length samples ≡ n * (level_in layout l).shape.channels) where
  abbrev channels : ℕ
  channels = (level_in layout l).shape.channels

  front : (i c : ℕ) → i < n → c < channels
      → get_or (samples ++ rest) (i * channels + c) 0 ≡ get_or samples ((0 * n + i) * channels + c) 0
  front i c column below =
      let index : (0 * n + i) * channels + c ≡ i * channels + c = omega arith in
      get_or_append_left samples rest 0 (i * channels + c)
      (omega (arith, long, mul-add-lt i channels c n column below))
      ∙ ap (λ (k : ℕ). get_or samples k 0) (sym index)

  -- if the layout is that of the bytes
  pub row_told : (bytes : List ℕ) → IsLayoutOf bytes layout → l < stored_count layout
      → (HoldsBlocks bytes (level_in layout l) → AreTexelsOn
      (sample_in layout.big bytes (level_in layout l)) channels (row_rect x y n) samples)
      → (i c : ℕ) → i < n → c < channels
      → get_or (samples ++ rest) (i * channels + c) 0 ≡ texel_at bytes l (x + i) y c
  row_told bytes is there read i c column below =
      let stored : l < stored_count (kept_of bytes) =
      subst (λ (k : Kept). l < stored_count k) is.kept there in
      let holds : HoldsBlocks bytes (level_in layout l) =
      subst (λ (k : Kept). HoldsBlocks bytes (level_in k l)) (sym is.kept)
      (holds_level bytes l is.good stored) in
      let row : y + 0 ≡ y = omega arith in
      front i c column below ∙ (read holds).each i 0 c column (omega arith) below
      ∙ ap (λ (k : ℕ). sample_in layout.big bytes (level_in layout l) (x + i) k c) row
      ∙ ap (λ (k : Kept). sample_in k.big bytes (level_in k l) (x + i) y c) is.kept
      ∙ sym (texel_stored (kept_of bytes) bytes l (x + i) y c stored)

  pub row_zeros : (len : ℕ) → CountAsZero (level_in layout l) len (row_rect x y n) samples
      → AreRowZeros (level_in layout l) len x y n (samples ++ rest)
  row_zeros len zeros = λ i c column below beyond.
      let row : y ≡ y + 0 = omega arith in
      front i c column below ∙ zeros i 0 c column (omega arith) below (rw row at beyond)

-- ---- the depth of the file

-- what was read over zeros is in range
pub low_told : (bytes : List ℕ) (layout : Kept) (n : ℕ) (samples : List ℕ) → IsLayoutOf bytes layout
    → (FitDepth (bit_depth_in layout) (replicate n 0) → FitDepth (bit_depth_in layout) samples)
    → FitDepth (bit_depth_of bytes) samples
low_told bytes layout n samples is read =
    subst (λ (k : Kept). FitDepth (bit_depth_in k) samples) is.kept
    (read (All-replicate (λ s. s ≤ greatest_sample (bit_depth_in layout)) n 0 (omega arith)))

-- ---- the texel in one of its columns

pub some_told : (held : Option (List ℕ)) (P : List ℕ → Type 0) → IsSome held → ForSome held P
    → IsSomeAnd held P
some_told None P there all = absurd (cc there)
some_told (Some bytes) P there all = all bytes refl

-- a column of a part
pub record IsColumn (x left n : ℕ) : Type 0 where
  pub below : x % 64 < n
  pub place : left + x % 64 ≡ x

pub is_column : (x part width n : ℕ) → x / 64 ≡ part → x < width
    → n ≡ min 64 (width - part * 64) → IsColumn x (part * 64) n
is_column x part width n is inside long = record {
  below = omega (arith, is, inside, long);
  place = omega (arith, is);
}

-- the samples that were copied of it
module _ (x left n channels : ℕ) (column : IsColumn x left n) (samples out : List ℕ) (count : ℕ)
    (same : count ≡ channels) (long : length out ≡ count)
    (copied : (c : ℕ) → c < count → get_or out c 0 ≡ get_or samples (x % 64 * count + c) 0) where
  copy_is : (c : ℕ) → c < length out → get_or out c 0 ≡ get_or samples (x % 64 * channels + c) 0
  copy_is c below =
      copied c (omega (arith, below, long))
      ∙ ap (λ (k : ℕ). get_or samples (x % 64 * k + c) 0) same

  pub texel_told : (bytes : List ℕ) (l y : ℕ) → FitDepth (bit_depth_of bytes) samples
      → ((i c : ℕ) → i < n → c < channels
      → get_or samples (i * channels + c) 0 ≡ texel_at bytes l (left + i) y c)
      → (c : ℕ) → c < length out → IsTexelSample bytes l x y c (get_or out c 0)
  texel_told bytes l y fit told c below = record {
    value = copy_is c below ∙ told (x % 64) c column.below (omega (arith, below, long, same))
        ∙ ap (λ (k : ℕ). texel_at bytes l k y c) column.place;
    low = rw (copy_is c below)
        (each_low (bit_depth_of bytes) samples fit (x % 64 * channels + c));
  }

  pub texel_zero : (beyond : ℕ → ℕ → Type 0) → ((i c : ℕ) → i < n → c < channels
      → beyond (left + i) c → get_or samples (i * channels + c) 0 ≡ 0)
      → (c : ℕ) → c < length out → beyond x c → get_or out c 0 ≡ 0
  texel_zero beyond zeros c below far =
      copy_is c below
      ∙ zeros (x % 64) c column.below (omega (arith, below, long, same))
      (subst (λ (k : ℕ). beyond k c) (sym column.place) far)
