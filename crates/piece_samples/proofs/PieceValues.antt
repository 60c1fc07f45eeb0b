-- The samples of texels that follow one another come from their bytes.
use Rattle.std.proofs.Common.{◌≡◌, ℕ, ◌+◌, ◌*◌, ◌<◌, ◌≤◌, Bool, true, false, eqb, cond, List}
use Rattle.std.proofs.Common.{length, sym, ap, ◌∙◌, arith, refl}
use Rattle.std.specs.Prelude.{◌&&◌}
use Rattle.std.proofs.lemmas.Bool.{eqb-true, false≢true, ne_eqb}
use Rattle.std.proofs.lemmas.Nat.{mod-mul-add, mul-add-lt}
use Rattle.std.proofs.Math.Nat.{mul-le-mul_left}
use Rattle.tiff_format.specs.Bytes.{number_at}
use Rattle.tiff_format.specs.Block.{Level, sample_bytes, texel_bytes}
use Rattle.tiff_format.specs.Bytes.{IsPartAt}
use Rattle.tiff_format.specs.Facts.{IsDepth}
use Rattle.tiff_format.specs.Texel.{sample_in, sample_place}
use Rattle.tiff_format.proofs.BytesOfParts.{number_of_part}
use Rattle.tile_layout.proofs.PlaceLemmas.{bytes_by}
use Rattle.tile_layout.specs.declared.texel_format.TexelFormat.{TexelFormat}
use Rattle.tile_layout.specs.FormatOf.{IsFormatOf}
use Rattle.unpack.specs.Sample.{depth_of, is_white, sample_of, stored_sample}
use Rattle.piece_samples.specs.Unpacked.{is_wide, unpacked}

-- a depth is that of wide samples, or that of the others
by_bits : (depth : ℕ) (narrow wide : Bool) → eqb depth 8 ≡ narrow → eqb depth 16 ≡ wide
    → IsDepth depth → depth ≡ depth_of wide
by_bits depth narrow true is8 is16 depths = eqb-true depth 16 is16
by_bits depth true false is8 is16 depths = eqb-true depth 8 is8
by_bits depth false false is8 is16 depths = absurd (false≢true (rw (is8, is16) at depths))

pub depth_by : (depth : ℕ) → IsDepth depth → depth ≡ depth_of (is_wide depth)
depth_by depth depths = by_bits depth (eqb depth 8) (eqb depth 16) refl refl depths

-- channel 0 of a texel is the white one
white_by : (white : Bool) (n j c : ℕ) → c < n
    → is_white (cond white n 0) (j * n + c) ≡ (white && eqb c 0)
white_by false n j c lt = refl
white_by true n j c lt =
    let some : eqb n 0 ≡ false = ne_eqb n 0 (λ e. omega arith) in
    rw (some, mod-mul-add j n c lt) refl

-- `count` texels whose samples follow one another from `at` on, and the bytes there
module _ (big : Bool) (bytes : List ℕ) (level : Level) (format : TexelFormat)
    (is : IsFormatOf big level.shape format) (count at : ℕ) (x_of y_of : ℕ → ℕ)
    (places : (j c : ℕ) → j < count → sample_place level (x_of j) (y_of j) c
    ≡ at + j * texel_bytes level.shape + c * sample_bytes level.shape.depth) (span : List ℕ)
    (part : IsPartAt bytes at span)
    (long : length span ≡ sample_bytes level.shape.depth * (count * level.shape.channels)) where
  depth_is : depth_of (is_wide format.depth) ≡ level.shape.depth
  depth_is = sym (depth_by format.depth format.in_range.bits) ∙ is.depth

  stored_is : (j c : ℕ) → j < count → c < level.shape.channels
      → stored_sample (is_wide format.depth) format.big span (j * level.shape.channels + c)
      ≡ number_at big (sample_bytes level.shape.depth) bytes
      (sample_place level (x_of j) (y_of j) c)
  stored_is j c j-below c-below =
      let channels = level.shape.channels in
      let size = sample_bytes level.shape.depth in
      let k = j * channels + c in
      let below = mul-add-lt j channels c count j-below c-below in
      let more : size * (k + 1) ≤ size * (count * channels) =
      mul-le-mul_left size (let h : k + 1 ≤ count * channels = omega arith in h) in
      let there = number_of_part big size (size * k) at bytes span part
      (omega (arith, more, long)) in
      let place : at + size * k ≡ sample_place level (x_of j) (y_of j) c =
      omega (
        arith,
        places j c j-below
            ∙ ap (λ (u : ℕ). at + j * u + c * size) (bytes_by level.shape is.one),
      ) in
      ap (λ (d : ℕ). number_at format.big (sample_bytes d) span (sample_bytes d * k)) depth_is
      ∙ ap (λ (b : Bool). number_at b size span (size * k)) is.order
      ∙ there ∙ ap (number_at big size bytes) place

  sample_is : (j c : ℕ) → j < count → c < level.shape.channels
      → sample_of (is_wide format.depth) format.big format.invert span
      (j * level.shape.channels + c)
      ≡ sample_in big bytes level (x_of j) (y_of j) c
  unfolding sample_in
  sample_is j c j-below c-below =
      let white : is_white format.invert (j * level.shape.channels + c)
      ≡ (level.shape.white && eqb c 0) =
      rw is.invert (white_by level.shape.white level.shape.channels j c c-below) in
      rw (white, stored_is j c j-below c-below, depth_is) refl

  -- the number of each sample is that of its texel
  pub value_is : (j c : ℕ) → j < count → c < level.shape.channels
      → sample_in big bytes level (x_of j) (y_of j) c
      ≡ unpacked format span (j * level.shape.channels + c)
  value_is j c j-below c-below = sym (sample_is j c j-below c-below)
