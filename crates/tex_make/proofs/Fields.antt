-- The fields of a directory fit their bytes, and their size does not depend on where the tiles are.
use Rattle.std.proofs.Common.{◌≡◌, ℕ, zero, suc, ◌+◌, ◌*◌, ◌^◌, ◌<◌, ◌≤◌, []}
use Rattle.std.proofs.Common.{length, refl, arith, Bool, true, false}
use Rattle.std.specs.Prelude.{◌==◌, if◌then◌else◌}
use Rattle.std.proofs.Math.Nat.{mul-le-mul, mul-le-mul_left}
use Rattle.std.proofs.lemmas.Grind.{common_steps}
use Rattle.std.proofs.lemmas.List.Elements.{All-cons, All-from_recursion, recursion_from_All}
use Rattle.std.specs.List.{All}
use Rattle.tiff_format.specs.Block.{pieces_over, sample_bytes}
use Rattle.tiff_format.specs.Facts.{IsSide, IsDepth}
use Rattle.tex_make.specs.declared.field.FieldKind.TheVariants.{Short, Long}
use Rattle.tex_make.specs.Field.{IsField, directory_size}
use Rattle.tex_make.specs.Picture.{Picture, IsPicture, colours, extra_samples}
use Rattle.tex_make.specs.Side.{IsMadeSide}
use Rattle.tex_make.specs.Texture.{tile_count, tile_size, fields_of, extra_field, equal, places}
use Rattle.tex_make.specs.Texture.{photometric}

-- ---- each field

short_field : (tag count n : ℕ) → count < 2 ^ 16 → n < 2 ^ 16 → IsField (equal Short tag count n)
short_field tag count n few low = record {
  low = omega arith;
  size = omega arith;
  fits = λ i lt. omega arith;
}

long_field : (tag count n : ℕ) → count * 4 < 2 ^ 32 → n < 2 ^ 32 → IsField (equal Long tag count n)
long_field tag count n few low = record {
  low = omega arith;
  size = omega arith;
  fits = λ i lt. omega arith;
}

places_field : (count first size : ℕ) → count * 4 < 2 ^ 32 → first + size * count < 2 ^ 32
    → IsField (places count first size)
places_field count first size few low = record {
  low = low;
  size = few;
  fits = λ i lt. omega (arith, mul-le-mul_left size (let h : i ≤ count = omega arith in h));
}

extra_fields : (n : ℕ) → n < 2 ^ 16 → All IsField (extra_field n)
extra_fields zero low = λ k d lt. absurd (omega (arith, lt))
extra_fields (suc n) low =
    All-cons IsField _ [] (short_field 338 (suc n) 0 low (omega arith))
    (λ k d lt. absurd (omega (arith, lt)))

few_extra : (n : ℕ) → length (extra_field n) ≤ 1
few_extra zero = omega arith
few_extra (suc n) = omega arith

-- ---- bounds

one_of : (b : Bool) (m n k : ℕ) → m < k → n < k → (if b then m else n) < k
one_of true m n k first second = first
one_of false m n k first second = second

pub pieces_low : (n side : ℕ) → IsSide n → IsMadeSide side → pieces_over n side ≤ 8192
pieces_low n side n_is is =
    let low = is.low in
    let high = n_is.high in
    grind arith

pub sample_low : (depth : ℕ) → sample_bytes depth ≤ 2
sample_low depth = by_test (depth == 8)
  where
    by_test : (b : Bool) → (if b then 1 else 2) ≤ 2
    by_test true = omega arith
    by_test false = omega arith

depth_low : (depth : ℕ) → IsDepth depth → depth < 2 ^ 16
depth_low depth is = grind (arith, common_steps)

-- ---- all of them

module _ (p : Picture) (is : IsPicture p) (side l : ℕ) (side_is : IsMadeSide side)
    (below : l < p.levels) where
  few_samples : extra_samples p < 2 ^ 16
  few_samples = let high = is.channels.high in omega (arith, high)

  pub few_tiles : tile_count p side l ≤ 67108864
  few_tiles = mul-le-mul (pieces_low (p.width l) side (is.width l below) side_is)
      (pieces_low (p.height l) side (is.height l below) side_is)

  pub low_tile : tile_size p side ≤ 1048576
  low_tile =
      let high = side_is.high in
      let few = is.channels.high in
      mul-le-mul (mul-le-mul high high) (mul-le-mul few (sample_low p.depth))

  -- each fits its bytes
  pub fields_fit : (first : ℕ) → first + tile_size p side * tile_count p side l < 2 ^ 32
      → All IsField (fields_of p side l first)
  unfolding fields_of
  fields_fit first low =
      let few = few_tiles in
      let small = low_tile in
      let channels = is.channels.high in
      let width = (is.width l below).high in
      let height = (is.height l below).high in
      let high = side_is.high in
      let smaller = one_of (l == 0) 0 1 (2 ^ 32) (omega arith) (omega arith) in
      let interpretation = one_of (colours p == 3) 2 1 (2 ^ 16) (omega arith) (omega arith) in
      let none : 1 * 4 < 2 ^ 32 = omega arith in
      All-from_recursion IsField (fields_of p side l first) (
        long_field 254 1 (if l == 0 then 0 else 1) none smaller,
        (
          long_field 256 1 (p.width l) none (omega (arith, width)),
          (
            long_field 257 1 (p.height l) none (omega (arith, height)),
            (
              short_field 258 p.channels p.depth (omega (arith, channels)) (depth_low p.depth is.depth),
              (
                short_field 259 1 1 (omega arith) (omega arith),
                (
                  short_field 262 1 (photometric p) (omega arith) interpretation,
                  (
                    short_field 277 1 p.channels (omega arith) (omega (arith, channels)),
                    (
                      short_field 284 1 1 (omega arith) (omega arith),
                      (
                        long_field 322 1 side none (omega (arith, high)),
                        (
                          long_field 323 1 side none (omega (arith, high)),
                          (
                            places_field (tile_count p side l) first (tile_size p side) (omega (arith, few)) low,
                            (
                              long_field 325 (tile_count p side l) (tile_size p side) (omega (arith, few))
                                  (omega (arith, small)),
                              recursion_from_All IsField (extra_field (extra_samples p))
                                  (extra_fields (extra_samples p) few_samples),
                            ),
                          ),
                        ),
                      ),
                    ),
                  ),
                ),
              ),
            ),
          ),
        ),
      )

  -- a directory has at most 13 fields
  pub fields_few : (first : ℕ) → length (fields_of p side l first) ≤ 13
  unfolding fields_of
  fields_few first = let few = few_extra (extra_samples p) in omega (arith, few)

  -- the place of the tiles does not change the size of the fields
  pub size_same : (first : ℕ)
      → directory_size (fields_of p side l first) ≡ directory_size (fields_of p side l 0)
  unfolding fields_of
  size_same first = refl
