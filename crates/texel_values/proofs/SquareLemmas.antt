-- The values of the first channels of a texel, by the samples of its tile's row.
use Rattle.std.proofs.Common.{◌≡◌, ℕ, ◌+◌, ◌-◌, ◌*◌, ◌<◌, ◌≤◌, ◌%◌, ◌==◌, Bool, true, false, nat_lt}
use Rattle.std.proofs.Common.{List, length, map, slice_index, get_or, refl}
use Rattle.std.proofs.Common.{take, drop, length-take, length-drop, Option, Some, None}
use Rattle.std.proofs.Common.{sym, ap, ◌∙◌, zero-add, arith}
use Rattle.std.specs.Prelude.{IsSomeAnd, if◌then◌else◌}
use Rattle.std.specs.List.{range_with_len}
use Rattle.std.proofs.Math.Nat.{mul-le-mul_right}
use Rattle.std.proofs.lemmas.List.{length-map, get_or-take, get_or-drop}
use Rattle.std.proofs.lemmas.List.FromFn.{get_or-map-range_with_len, length-range_with_len}
use Rattle.tex_world.specs.World.{Files}
use Rattle.tile_layout.specs.Key.{generation_of, file_of, level_of}
use Rattle.tile_layout.specs.Cell.{HoldsTexel, bit_depth_of}
use Rattle.tile_layout.specs.Value.{channel_value_of}
use Rattle.texel_filter.specs.Image.{AreFirst}
use Rattle.texel_filter.specs.Square.{number_value, AreNumbers}
use Rattle.tile_store.specs.Tile.{CachedTile, IsTile, HoldsRow, AreSamples, kept_sample}
use Rattle.tile_store.specs.Told.{ToldBy, IsTold}
use Rattle.tile_store.proofs.TileLemmas.{told_samples}
use Rattle.texel_values.specs.declared.texel_at.TexelAt.{TexelAt}
use Rattle.texel_values.specs.Values.{sample_or_zero, sample_value, AreValuesAt}
use Rattle.texel_values.proofs.ValueLemmas.{told_values}

some_map : {A : Type 0} (o : Option A) (P Q : A → Type 0) → ((x : A) → P x → Q x)
    → IsSomeAnd o P → IsSomeAnd o Q
some_map (Some x) P Q f p = f x p
some_map None P Q f p = absurd p

-- the value of a sample of 8 bits or of more
abbrev kept_by : Bool → ℕ → ℕ
kept_by narrow sample =
    let kept = if narrow then sample % 256 else sample in if narrow then 257 * kept else kept

-- a channel of these samples, as a number of a corner, is of its value
number_of_sample : (samples : List ℕ) (depth c : ℕ)
    → number_value (depth == 8) (sample_or_zero samples c) ≡ sample_value samples depth c
number_of_sample samples depth c = by (nat_lt c (length samples)) (depth == 8)
  where
    by : (low narrow : Bool) → number_value narrow (if low then slice_index samples c else 0)
        ≡ (if low then kept_by narrow (slice_index samples c) else 0)
    by true true = refl
    by true false = refl
    by false true = refl
    by false false = refl

-- four facts of one value, together
pub some_four : {A : Type 0} (o : Option A) (P Q R S T : A → Type 0)
    → ((x : A) → P x → Q x → R x → S x → T x) → IsSomeAnd o P → IsSomeAnd o Q → IsSomeAnd o R
    → IsSomeAnd o S → IsSomeAnd o T
some_four (Some x) P Q R S T f p q r s = f x p q r s
some_four None P Q R S T f p q r s = absurd p

-- ---- one texel of several in a row

module _ (tile : CachedTile) (from y n x : ℕ) (samples : List ℕ) (left : from ≤ x)
    (right : x < from + n) (are : AreSamples tile from y n samples) where
  abbrev place : ℕ
  place = (x - from) * tile.channels

  pub texel_ends : place + tile.channels ≤ length samples
  texel_ends =
      let more : (x - from + 1) * tile.channels ≤ n * tile.channels =
      mul-le-mul_right tile.channels (omega (arith, left, right)) in
      omega (arith, more, are.count)

  pub texel_samples : AreSamples tile x y 1 (take tile.channels (drop place samples))
  texel_samples = record {
    count = omega (
      arith,
      length-take tile.channels (drop place samples),
      length-drop place samples,
      texel_ends,
    );
    each = λ i c i_in c_in.
        let on : from + (x - from) ≡ x + i = omega (arith, left, i_in) in
        let at : place + (i * tile.channels + c) ≡ (x - from) * tile.channels + c =
        let none : i ≡ 0 = omega (arith, i_in) in rw none (omega arith) in
        let within : i * tile.channels + c < tile.channels =
        let none : i ≡ 0 = omega (arith, i_in) in rw none (omega (arith, c_in)) in
        get_or-take tile.channels (drop place samples) (i * tile.channels + c) 0 within
        ∙ get_or-drop place samples (i * tile.channels + c) 0
        ∙ ap (λ k. get_or samples k 0) at
        ∙ are.each (x - from) c (omega (arith, left, right)) c_in
        ∙ ap (λ k. kept_sample tile k y c) on;
  }

-- in a modelled world, the first n channels are those of the texel in the tile's file
abbrev pub ToldFirst : Files → CachedTile → ℕ → TexelAt → Bool → ℕ → List ℕ → Type 0
ToldFirst files tile depth at narrow n corner = ToldBy files tile.key (λ bytes.
    level_of tile.key ≡ at.level → depth ≡ bit_depth_of bytes
    → AreNumbers narrow n (channel_value_of bytes at.level at.x at.y) corner)

pub told_first : (files : Files) (tile : CachedTile) (depth : ℕ) (at : TexelAt)
    (samples : List ℕ) (narrow : Bool) (n : ℕ) (corner : List ℕ) → IsTile tile → IsTold files tile
    → HoldsTexel tile.rect at.x at.y → AreSamples tile at.x at.y 1 samples
    → narrow ≡ (depth == 8) → AreFirst n (sample_or_zero samples) corner
    → ToldFirst files tile depth at narrow n corner
told_first files tile depth at samples narrow n corner own told holds are narrow_is first tells =
    some_map (files.held (file_of tile.key) (generation_of tile.key))
    (λ bytes. level_of tile.key ≡ at.level → depth ≡ bit_depth_of bytes → AreValuesAt bytes at out)
    (λ bytes. level_of tile.key ≡ at.level → depth ≡ bit_depth_of bytes
    → AreNumbers narrow n (channel_value_of bytes at.level at.x at.y) corner)
    (λ bytes values level same c low.
    is c low ∙ (sym (out_is c low) ∙ values level same c (omega (arith, low, long))))
    (told_values files tile depth at samples out told are
    (told_samples files tile own told at.x at.y 1 samples row are)
    (λ c low. out_is c (omega (arith, low, long))) tells)
  where
    is : AreNumbers narrow n (sample_value samples depth) corner
    is c low = rw (narrow_is, first c low) (number_of_sample samples depth c)

    row : HoldsRow tile at.x at.y 1
    row = record {
      left = holds.left;
      right = let right = holds.right in omega arith;
      top = holds.top;
      bottom = holds.bottom;
    }

    out : List ℕ
    out = map (sample_value samples depth) (range_with_len 0 n)

    long : length out ≡ n
    long = omega (
      arith,
      length-map (range_with_len 0 n) (sample_value samples depth),
      length-range_with_len 0 n,
    )

    out_is : (c : ℕ) → c < n → slice_index out c ≡ sample_value samples depth c
    out_is c low =
        get_or-map-range_with_len (sample_value samples depth) 0 n c c 0 low (zero-add c)
