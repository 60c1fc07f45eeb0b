-- The bytes of the tiles of a texture, row by row.
use Rattle.std.proofs.Common.{◌≡◌, ℕ, ◌+◌, ◌-◌, ◌*◌, ◌/◌, ◌%◌, ◌<◌, ◌≤◌, List, [], length}
use Rattle.std.proofs.Common.{Bool, true, false, slice_index, min, refl, sym, ap, ◌∙◌, subst, arith, inl, inr}
use Rattle.std.specs.Prelude.{◌==◌, ◌&&◌, nat_lt as ltb, if◌then◌else◌}
use Rattle.std.specs.Int.{byte_at}
use Rattle.std.proofs.lemmas.Bool.{cases_lt, lt-ltb, le-ltb}
use Rattle.std.proofs.lemmas.List.{get_or_past}
use Rattle.std.proofs.lemmas.Nat.{div-add-mod', mod_below, div_below}
use Rattle.std.proofs.Math.Nat.{mul-add-div_right, mul-add-mod_self_right, mul-le-mul_right}
use Rattle.std.proofs.Math.Nat.{div-eq_of_lt, mod-eq_of_lt}
use Rattle.tiff_format.specs.Block.{sample_bytes}
use Rattle.tex_make.specs.Picture.{Picture}
use Rattle.tex_make.specs.PlainLevel.{PlainLevel, place_in, sample_in}
use Rattle.tex_make.specs.Row.{byte_of_samples}
use Rattle.tex_make.specs.Texture.{padded_sample, tile_byte, tiles_across}

-- equal numbers have equal products
pub product_is : (a b m n : ℕ) → a ≡ m → b ≡ n → a * b ≡ m * n
product_is a b m n first second = ap (λ (k : ℕ). k * b) first ∙ ap (λ (k : ℕ). m * k) second

-- ---- padding

and_false : (b : Bool) → (b && false) ≡ false
and_false true = refl
and_false false = refl

module _ (p : Picture) (l x y c : ℕ) where
  pub padded_in : x < p.width l → y < p.height l → padded_sample p l x y c ≡ p.sample l x y c
  padded_in across down = rw (lt-ltb x (p.width l) across, lt-ltb y (p.height l) down) refl

  pub padded_right : p.width l ≤ x → padded_sample p l x y c ≡ 0
  padded_right right = rw (le-ltb x (p.width l) right) refl

  pub padded_down : p.height l ≤ y → padded_sample p l x y c ≡ 0
  padded_down below =
      rw (le-ltb y (p.height l) below, and_false (ltb x (p.width l))) refl

-- ---- a row of a tile

-- The samples of row y of a level from column x on, at most `side` texels; none if the row does not
-- exist.
pub record IsPart (level : PlainLevel) (x y side : ℕ) (samples : List ℕ) : Type 0 where
  pub long : y < level.height → length samples ≡ min side (level.width - x) * level.channels
  pub each : y < level.height → (k : ℕ) → k < length samples
      → slice_index samples k ≡ slice_index level.samples (place_in level x y 0 + k)
  pub none : level.height ≤ y → samples ≡ []

-- this is level l of an image
pub record IsLevelOf (p : Picture) (l : ℕ) (level : PlainLevel) : Type 0 where
  pub width : p.width l ≡ level.width
  pub height : p.height l ≡ level.height
  pub channels : p.channels ≡ level.channels
  pub sample : (x y c : ℕ) → p.sample l x y c ≡ sample_in level x y c

module _ (p : Picture) (l : ℕ) (level : PlainLevel) (is : IsLevelOf p l level)
    (x y side : ℕ) (samples : List ℕ) (part : IsPart level x y side samples)
    (some : 1 ≤ level.channels) where
  abbrev n : ℕ
  n = level.channels

  -- a sample past the part is 0
  past : (q : ℕ) → length samples ≤ q → slice_index samples q ≡ 0
  past q far = get_or_past samples q 0 far

  inside : (q : ℕ) → y < level.height → q < length samples
      → (x + q / n < level.width)
      × (slice_index samples q ≡ sample_in level (x + q / n) y (q % n))
  inside q row low =
      let long = part.long row in
      let column : q / n < min side (level.width - x) =
      div_below q n (min side (level.width - x)) some (omega (arith, low, long)) in
      let whole : q / n * n + q % n ≡ q = div-add-mod' q n in
      let at : place_in level x y 0 + q ≡ place_in level (x + q / n) y (q % n) = omega (arith, whole) in (
        omega (arith, column),
        part.each row q low ∙ ap (slice_index level.samples) at,
      )

  outside : (q : ℕ) → q < side * n → y < level.height → length samples ≤ q
      → level.width ≤ x + q / n
  outside q within row far =
      let long = part.long row in
      let column : q / n < side = div_below q n side some within in
      elim (cases_lt (x + q / n) level.width) [
        | inl left ↦
            let low : q / n + 1 ≤ min side (level.width - x) = omega (arith, column, left) in
            let samples_low : (q / n + 1) * n ≤ min side (level.width - x) * n = mul-le-mul_right n low in
            let whole : q / n * n + q % n ≡ q = div-add-mod' q n in
            let rest = mod_below q n some in
            absurd (omega (arith, samples_low, whole, rest, far, long))
        | inr right ↦ right
      ]

  -- each sample of the part, and 0 past it, is that of the padded texel
  pub part_is : (q : ℕ) → q < side * n
      → slice_index samples q ≡ padded_sample p l (x + q / n) y (q % n)
  part_is q within = elim (cases_lt y level.height) [
    | inr below ↦
        let down : p.height l ≤ y = omega (arith, below, is.height) in
        ap (λ (xs : List ℕ). slice_index xs q) (part.none below)
        ∙ sym (padded_down p l (x + q / n) y (q % n) down)
    | inl row ↦ elim (cases_lt q (length samples)) [
      | inl low ↦
          let both = inside q row low in
          both.1 ∙ sym (is.sample (x + q / n) y (q % n))
          ∙ sym (padded_in p l (x + q / n) y (q % n) (omega (arith, both.0, is.width))
          (omega (arith, row, is.height)))
      | inr far ↦
          let right = outside q within row far in
          past q far ∙ sym (padded_right p l (x + q / n) y (q % n) (omega (arith, right, is.width)))
    ]
  ]

-- ---- the bytes of a row

-- byte j of row r of a tile: its sample, and the byte of it
module _ (s side n r j : ℕ) (some : 1 ≤ s) (channels : 1 ≤ n) (aside : 1 ≤ side)
    (low : j < side * (n * s)) where
  abbrev k : ℕ
  k = r * (side * (n * s)) + j

  -- the sample of the row
  pub sample_low : j / s < side * n
  sample_low = div_below j s (side * n) some (omega (arith, low))

  pub byte_is : k % s ≡ j % s
  byte_is =
      let whole : r * (side * (n * s)) ≡ (r * side * n) * s = omega arith in
      ap (λ (q : ℕ). (q + j) % s) whole ∙ mul-add-mod_self_right (r * side * n) s j

  sample_is : k / s ≡ r * side * n + j / s
  sample_is =
      let whole : r * (side * (n * s)) ≡ (r * side * n) * s = omega arith in
      ap (λ (q : ℕ). (q + j) / s) whole ∙ mul-add-div_right some (r * side * n) j

  pub channel_is : k / s % n ≡ j / s % n
  channel_is = ap (λ (q : ℕ). q % n) sample_is ∙ mul-add-mod_self_right (r * side) n (j / s)

  texel_is : k / s / n ≡ r * side + j / s / n
  texel_is = ap (λ (q : ℕ). q / n) sample_is ∙ mul-add-div_right channels (r * side) (j / s)

  column_low : j / s / n < side
  column_low = div_below (j / s) n side channels sample_low

  pub column_is : k / s / n % side ≡ j / s / n
  column_is = ap (λ (q : ℕ). q % side) texel_is
      ∙ mul-add-mod_self_right r side (j / s / n) ∙ mod-eq_of_lt column_low

  pub row_is : k / s / n / side ≡ r
  row_is =
      let none : j / s / n / side ≡ 0 = div-eq_of_lt column_low in
      ap (λ (q : ℕ). q / side) texel_is ∙ mul-add-div_right aside r (j / s / n) ∙ omega (arith, none)

-- ---- a row more

module _ (p : Picture) (l : ℕ) (level : PlainLevel) (is : IsLevelOf p l level) (side i r : ℕ)
    (samples : List ℕ)
    (part : IsPart level (i % tiles_across p side l * side) (i / tiles_across p side l * side + r) side
    samples)
    (channels : 1 ≤ p.channels) (aside : 1 ≤ side) where
  abbrev s : ℕ
  s = sample_bytes p.depth

  abbrev size : ℕ
  size = side * (p.channels * s)

  abbrev x : ℕ
  x = i % tiles_across p side l * side

  abbrev y : ℕ
  y = i / tiles_across p side l * side

  some_bytes : 1 ≤ s
  some_bytes = by_test (p.depth == 8)
    where
      by_test : (b : Bool) → 1 ≤ (if b then 1 else 2)
      by_test true = omega arith
      by_test false = omega arith

  -- byte j of row r
  row_byte : (j : ℕ) → j < size
      → byte_of_samples p.depth samples j ≡ tile_byte p side l i (r * size + j)
  row_byte j low =
      let m = p.channels in
      let k = r * size + j in
      let q = j / s in
      let b = byte_is s side m r j some_bytes channels aside low in
      let column = column_is s side m r j some_bytes channels aside low in
      let row = row_is s side m r j some_bytes channels aside low in
      let channel = channel_is s side m r j some_bytes channels aside low in
      let within = sample_low s side m r j some_bytes channels aside low in
      let told : slice_index samples q ≡ padded_sample p l (x + q / m) (y + r) (q % m) =
      subst (λ (n : ℕ). slice_index samples q ≡ padded_sample p l (x + q / n) (y + r) (q % n))
      (sym is.channels)
      (part_is p l level is x (y + r) side samples part (omega (arith, channels, is.channels)) q
      (subst (λ (n : ℕ). q < side * n) is.channels within)) in
      ap (λ (a : ℕ). byte_at a (slice_index samples q)) (sym b)
      ∙ ap (byte_at (k % s)) (told
      ∙ ap (λ (e : ℕ). padded_sample p l (x + q / m) (y + r) e) (sym channel)
      ∙ ap (λ (d : ℕ). padded_sample p l (x + q / m) (y + d) (k / s % m)) (sym row)
      ∙ ap (λ (a : ℕ). padded_sample p l (x + a) (y + k / s / m / side) (k / s % m)) (sym column))

  -- the rows before it, and it
  pub row_more : (old new : List ℕ)
      → ((k : ℕ) → k < r * size → slice_index new k ≡ slice_index old k)
      → ((k : ℕ) → r * size + k < r * size + size
      → slice_index new (r * size + k) ≡ byte_of_samples p.depth samples k)
      → ((k : ℕ) → k < r * size → slice_index old k ≡ tile_byte p side l i k)
      → (k : ℕ) → k < (r + 1) * size → slice_index new k ≡ tile_byte p side l i k
  row_more old new before within done k low = elim (cases_lt k (r * size)) [
    | inl above ↦ before k above ∙ done k above
    | inr below ↦
        let j = k - r * size in
        let at : r * size + j ≡ k = omega arith in
        let short : j < size = omega (arith, low) in
        ap (slice_index new) (sym at) ∙ within j (omega arith) ∙ row_byte j short
        ∙ ap (tile_byte p side l i) at
  ]
