-- The values of the channels of a texel, by the samples of its tile.
use Rattle.std.proofs.Common.{◌≡◌, ℕ, ◌+◌, ◌*◌, ◌%◌, ◌<◌, ◌≤◌, ◌==◌, Bool, true, false, nat_lt, List}
use Rattle.std.proofs.Common.{◌-◌, length, slice_index, refl, sym, ap, subst, ◌∙◌, arith}
use Rattle.std.specs.Prelude.{if◌then◌else◌, IsSomeAnd, Option, Some, None}
use Rattle.std.proofs.lemmas.Bool.{ltb-true, ltb-false, eqb-true}
use Rattle.std.proofs.lemmas.List.Elements.{All-get_or}
use Rattle.std.proofs.lemmas.Nat.{mul-add-lt}
use Rattle.tex_world.specs.World.{Files}
use Rattle.tiff_format.specs.Texel.{value_of, greatest_sample}
use Rattle.tile_layout.specs.Key.{generation_of, file_of, level_of}
use Rattle.tile_layout.specs.Cell.{channels_of, bit_depth_of}
use Rattle.tile_layout.specs.Texel.{texel_at}
use Rattle.tile_store.specs.Tile.{CachedTile, IsTile, AreSamples, kept_sample}
use Rattle.tile_store.specs.Told.{IsOfBytes, IsTold, IsSampleOf, AreToldSamples}
use Rattle.tile_layout.specs.Cell.{HoldsTexel}
use Rattle.tile_layout.specs.Value.{channel_value_of}
use Rattle.texel_values.specs.declared.texel_at.TexelAt.{TexelAt}
use Rattle.texel_values.specs.declared.window.RegionShape.{RegionShape}
use Rattle.texel_values.specs.RegionShape.{column_of, row_of, HasValuesOn, Paints, PaintsTold}
use Rattle.texel_values.specs.Values.{kept_value, sample_value, AreValuesIn}
use Rattle.texel_values.specs.Values.{AreValuesAt, AreToldValues}

some_and : {A : Type 0} (o : Option A) (P Q R : A → Type 0) → ((x : A) → P x → Q x → R x)
    → IsSomeAnd o P → IsSomeAnd o Q → IsSomeAnd o R
some_and (Some x) P Q R f p q = f x p q
some_and None P Q R f p q = absurd p

-- a number if the test passes, otherwise 0
abbrev pub where_low : Bool → ℕ → ℕ
where_low low value = if low then value else 0

-- it is the value if the channel exists
same_where_true : (low : Bool) (c n value : ℕ) → nat_lt c n ≡ low → c < n
    → value ≡ where_low low value
same_where_true true c n value is less = refl
same_where_true false c n value is less = absurd (omega (arith, less, ltb-false c n is))

-- both are equal if they are for each channel that exists
same_where : (low : Bool) (c n a b : ℕ) → nat_lt c n ≡ low → (c < n → a ≡ b)
    → where_low low a ≡ where_low low b
same_where true c n a b is same = same (ltb-true c n is)
same_where false c n a b is same = refl

pub values_of_samples : (tile : CachedTile) (depth : ℕ) (at : TexelAt) (samples out : List ℕ)
    → AreSamples tile at.x at.y 1 samples
    → ((c : ℕ) → c < length out → slice_index out c ≡ sample_value samples depth c)
    → AreValuesIn tile depth at out
values_of_samples tile depth at samples out are is c low =
    let n = tile.channels in
    let count : length samples ≡ n = omega (arith, are.count) in
    is c low
    ∙ (ap (λ (k : ℕ). where_low (nat_lt c k) (kept_value depth (slice_index samples c))) count
    ∙ same_where (nat_lt c n) c n (kept_value depth (slice_index samples c))
    (kept_value depth (kept_sample tile at.x at.y c)) refl
    (λ here. ap (kept_value depth) (here_is here)))
  where
    here_is : c < tile.channels → slice_index samples c ≡ kept_sample tile at.x at.y c
    here_is here = ap (slice_index samples) (omega arith) ∙ (are.each 0 c (omega arith) here
        ∙ ap (λ (x : ℕ). kept_sample tile x at.y c) (omega arith))

-- an 8-bit sample is no more than 255
kept_low : (depth sample : ℕ) → sample ≤ greatest_sample depth
    → kept_value depth sample ≡ value_of depth sample
kept_low depth sample low = by (depth == 8) refl
  where
    by : (narrow : Bool) → (depth == 8) ≡ narrow
        → value_of depth (if narrow then sample % 256 else sample) ≡ value_of depth sample
    by true is = ap (value_of depth) (small (eqb-true depth 8 is))
      where
        small : depth ≡ 8 → sample % 256 ≡ sample
        small eight = omega (arith, subst (λ (d : ℕ). sample ≤ greatest_sample d) eight low)
    by false is = refl

-- The values of the samples are those of the file.
values_at : (tile : CachedTile) (at : TexelAt) (samples out bytes : List ℕ)
    → tile.channels ≡ channels_of bytes → AreSamples tile at.x at.y 1 samples
    → ((i c : ℕ) → i < 1 → c < tile.channels → IsSampleOf bytes tile.key (at.x + i) at.y c
    (slice_index samples (i * tile.channels + c)))
    → ((c : ℕ) → c < length out → slice_index out c ≡ sample_value samples (bit_depth_of bytes) c)
    → level_of tile.key ≡ at.level → AreValuesAt bytes at out
values_at tile at samples out bytes channels are told is level c low =
    let n = channels_of bytes in
    let depth = bit_depth_of bytes in
    let count : length samples ≡ n = omega (arith, are.count, channels) in
    is c low
    ∙ (ap (λ (k : ℕ). where_low (nat_lt c k) (kept_value depth (slice_index samples c))) count
    ∙ same_where (nat_lt c n) c n (kept_value depth (slice_index samples c))
    (value_of depth (texel_at bytes at.level at.x at.y c)) refl here)
  where
    here : c < channels_of bytes → kept_value (bit_depth_of bytes) (slice_index samples c)
        ≡ value_of (bit_depth_of bytes) (texel_at bytes at.level at.x at.y c)
    here low_c =
        let own = told 0 c (omega arith) (omega (arith, channels, low_c)) in
        let place : slice_index samples c ≡ slice_index samples (0 * tile.channels + c) =
        ap (slice_index samples) (omega arith) in
        let value : slice_index samples c ≡ texel_at bytes at.level at.x at.y c =
        place ∙ (own.value ∙ (ap (λ (l : ℕ). texel_at bytes l (at.x + 0) at.y c) level
        ∙ ap (λ (x : ℕ). texel_at bytes at.level x at.y c) (omega arith))) in
        kept_low (bit_depth_of bytes) (slice_index samples c) (omega (arith, place, own.low))
        ∙ ap (value_of (bit_depth_of bytes)) value

pub told_values : (files : Files) (tile : CachedTile) (depth : ℕ) (at : TexelAt)
    (samples out : List ℕ) → IsTold files tile → AreSamples tile at.x at.y 1 samples
    → AreToldSamples files tile at.x at.y 1 samples
    → ((c : ℕ) → c < length out → slice_index out c ≡ sample_value samples depth c)
    → AreToldValues files tile depth at out
told_values files tile depth at samples out told are rows is tells =
    some_and (files.held (file_of tile.key) (generation_of tile.key))
    (λ bytes. IsOfBytes bytes tile)
    (λ bytes. (i c : ℕ) → i < 1 → c < tile.channels → IsSampleOf bytes tile.key (at.x + i) at.y c
    (slice_index samples (i * tile.channels + c)))
    (λ bytes. level_of tile.key ≡ at.level → depth ≡ bit_depth_of bytes → AreValuesAt bytes at out)
    (λ bytes of row level same. values_at tile at samples out bytes of.channels are row
    (λ c low. is c low ∙ ap (λ (d : ℕ). sample_value samples d c) same) level)
    (told tells) (rows tells)

-- the values of the samples of a texel are those of its file
pub values_of_texel : (at : TexelAt) (samples out bytes : List ℕ)
    → length samples ≡ channels_of bytes
    → ((c : ℕ) → c < length samples
    → slice_index samples c ≡ texel_at bytes at.level at.x at.y c)
    → ((c : ℕ) → c < length samples
    → slice_index samples c ≤ greatest_sample (bit_depth_of bytes))
    → ((c : ℕ) → c < length out → slice_index out c ≡ sample_value samples (bit_depth_of bytes) c)
    → AreValuesAt bytes at out
values_of_texel at samples out bytes count value fits is c low =
    let n = channels_of bytes in
    let depth = bit_depth_of bytes in
    is c low
    ∙ (ap (λ (k : ℕ). where_low (nat_lt c k) (kept_value depth (slice_index samples c))) count
    ∙ same_where (nat_lt c n) c n (kept_value depth (slice_index samples c))
    (value_of depth (texel_at bytes at.level at.x at.y c)) refl
    (λ here.
    let below : c < length samples = omega (arith, count, here) in
    kept_low depth (slice_index samples c) (fits c below) ∙ ap (value_of depth) (value c below)))

-- ---- a tile of a region

-- a texel of a tile has the value of its file's
value_told : (tile : CachedTile) (bytes : List ℕ) (x y c : ℕ) → IsOfBytes bytes tile → IsTile tile
    → HoldsTexel tile.rect x y → c < tile.channels
    → kept_value (bit_depth_of bytes) (kept_sample tile x y c)
    ≡ channel_value_of bytes (level_of tile.key) x y c
value_told tile bytes x y c of is holds low =
    let i = x - tile.rect.x in
    let j = y - tile.rect.y in
    let place = (j * tile.rect.w + i) * tile.channels + c in
    let i_low : i < tile.rect.w = omega (arith, holds.left, holds.right) in
    let j_low : j < tile.rect.h = omega (arith, holds.top, holds.bottom) in
    let x_is : tile.rect.x + i ≡ x = omega (arith, holds.left) in
    let y_is : tile.rect.y + j ≡ y = omega (arith, holds.top) in
    let value : kept_sample tile x y c ≡ texel_at bytes (level_of tile.key) x y c =
    of.texels.each i j c i_low j_low low
    ∙ (ap (λ (m : ℕ). texel_at bytes (level_of tile.key) m (tile.rect.y + j) c) x_is
    ∙ ap (λ (m : ℕ). texel_at bytes (level_of tile.key) x m c) y_is) in
    let at_row : j * tile.rect.w + i < tile.rect.w * tile.rect.h =
    mul-add-lt j tile.rect.w i tile.rect.h j_low i_low in
    let inside : place < length tile.texels = omega (
      arith,
      mul-add-lt (j * tile.rect.w + i) tile.channels c (tile.rect.w * tile.rect.h) at_row low,
      is.texels,
    ) in
    kept_low (bit_depth_of bytes) (kept_sample tile x y c)
    (All-get_or (λ (s : ℕ). s ≤ greatest_sample (bit_depth_of bytes)) tile.texels place 0 inside of.low)
    ∙ (ap (value_of (bit_depth_of bytes)) value
    ∙ same_where_true (nat_lt c (channels_of bytes)) c (channels_of bytes)
    (value_of (bit_depth_of bytes) (texel_at bytes (level_of tile.key) x y c)) refl
    (subst (λ (n : ℕ). c < n) of.channels low))

pub told_paint : (files : Files) (tile : CachedTile) (depth : ℕ) (window : RegionShape) (height : ℕ)
    (old new : List ℕ) → IsTold files tile → IsTile tile → tile.channels ≡ window.channels
    → Paints tile depth window height old new → PaintsTold files tile depth window height new
told_paint files tile depth window height old new told is channels paints tells =
    some_and (files.held (file_of tile.key) (generation_of tile.key))
    (λ bytes. IsOfBytes bytes tile) (λ bytes. IsOfBytes bytes tile)
    (λ bytes. depth ≡ bit_depth_of bytes
    → HasValuesOn bytes (level_of tile.key) tile.rect window height new)
    (λ bytes of also same i j c i_low j_low c_low at.
    paints.written i j c i_low j_low c_low at
    ∙ (ap (λ (d : ℕ). kept_value d (kept_sample tile (column_of window i) (row_of window j) c)) same
    ∙ value_told tile bytes (column_of window i) (row_of window j) c of is at.1
    (subst (λ (n : ℕ). c < n) (sym channels) c_low)))
    (told tells) (told tells)
