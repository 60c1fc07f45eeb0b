-- The numbers of the texels of a rectangle, by their places.
use Rattle.std.proofs.Common.{◌≡◌, ℕ, ◌+◌, ◌*◌, ◌/◌, ◌%◌, ◌<◌, List, [], ◌∷◌, ◌++◌, map, length}
use Rattle.std.proofs.Common.{slice_index, refl, sym, ap, ◌∙◌, arith, zero-add}
use Rattle.std.specs.List.{range_with_len, flat_map}
use Rattle.std.proofs.lemmas.List.Concat.{flat_map-append}
use Rattle.std.proofs.lemmas.List.FromFn.{length-map-range_with_len, get_or-map-range_with_len}
use Rattle.std.proofs.lemmas.Nat.{mul-add-lt, div-mul-add, mod-mul-add}
use Rattle.tiff_format.specs.declared.rect.Rect.{Rect}
use Rattle.tile_layout.specs.Pieces.{row_texels, rect_texels}
use Rattle.tile_layout.specs.Texel.{AreTexelsOn}
use Rattle.rect_read.proofs.PieceValues.{flat_of_map}
use Rattle.rect_read.proofs.Ranges.{flat_alike, map_alike, flat_rows}

-- lists of lists
pub flat_of_flat : {A B C : Type 0} (f : B → List C) (g : A → List B) (xs : List A)
    → flat_map f (flat_map g xs) ≡ flat_map (λ x. flat_map f (g x)) xs
flat_of_flat f g [] = refl
flat_of_flat f g (x ∷ xs) =
    flat_map-append f (g x) (flat_map g xs)
    ∙ ap (λ rest. flat_map f (g x) ++ rest) (flat_of_flat f g xs)

-- `texel` says which number is sample c of texel (x, y), of n samples
module _ (texel : ℕ → ℕ → ℕ → ℕ) (n : ℕ) (rect : Rect) where
  abbrev numbers_of : ℕ × ℕ → List ℕ
  numbers_of t = map (λ c. texel t.0 t.1 c) (range_with_len 0 n)

  -- number k of the rectangle
  abbrev number : ℕ → ℕ
  number k = texel (rect.x + k % (rect.w * n) / n) (rect.y + k / (rect.w * n))
      (k % (rect.w * n) % n)

  number_at : (i j c : ℕ) → i < rect.w → c < n
      → number (j * (rect.w * n) + (i * n + c)) ≡ texel (rect.x + i) (rect.y + j) c
  number_at i j c across some =
      let row = rect.w * n in
      let below : i * n + c < row = omega (arith, mul-add-lt i n c rect.w across some) in
      rw (
        mod-mul-add j row (i * n + c) below,
        div-mul-add j row (i * n + c) below,
        div-mul-add i n c some,
        mod-mul-add i n c some,
      ) refl

  row_numbers : (j : ℕ) → flat_map numbers_of (row_texels rect.x (rect.y + j) rect.w)
      ≡ map (λ k. number ((0 + j) * (rect.w * n) + k)) (range_with_len 0 (rect.w * n))
  row_numbers j =
      let own : ℕ → ℕ = λ k. number ((0 + j) * (rect.w * n) + k) in
      let none : 0 * n ≡ 0 = omega arith in
      flat_of_map numbers_of (λ i. (rect.x + i, rect.y + j)) (range_with_len 0 rect.w)
      ∙ flat_alike (λ i. numbers_of (rect.x + i, rect.y + j))
      (λ i. map (λ c. own (i * n + c)) (range_with_len 0 n)) 0 0 rect.w
      (λ i across. map_alike (λ c. texel (rect.x + (0 + i)) (rect.y + j) c)
      (λ c. own ((0 + i) * n + c)) 0 0 n
      (λ c some. sym (number_at (0 + i) (0 + j) (0 + c) (rw zero-add across) (rw zero-add some)
      ∙ rw (zero-add j) refl)))
      ∙ flat_rows own n 0 rect.w
      ∙ ap (λ (k : ℕ). map own (range_with_len k (rect.w * n))) none

  rect_numbers : flat_map numbers_of (rect_texels rect)
      ≡ map number (range_with_len 0 (rect.h * (rect.w * n)))
  rect_numbers =
      let row = rect.w * n in
      let none : 0 * row ≡ 0 = omega arith in
      flat_of_flat numbers_of (λ y. row_texels rect.x y rect.w) (range_with_len rect.y rect.h)
      ∙ flat_alike (λ y. flat_map numbers_of (row_texels rect.x y rect.w))
      (λ j. map (λ k. number (j * row + k)) (range_with_len 0 row)) rect.y 0 rect.h
      (λ j down. row_numbers j)
      ∙ flat_rows number row 0 rect.h
      ∙ ap (λ (k : ℕ). map number (range_with_len k (rect.h * row))) none

  -- one texel after the other they are the texels of the rectangle
  pub are_texels : (numbers : List ℕ) → numbers ≡ flat_map numbers_of (rect_texels rect)
      → AreTexelsOn texel n rect numbers
  are_texels numbers is =
      let all = is ∙ rect_numbers in
      let count = rect.h * (rect.w * n) in
      record {
        count = ap length all ∙ length-map-range_with_len number 0 count ∙ omega arith;
        each = λ i j c across down some.
            let k : (j * rect.w + i) * n + c ≡ j * (rect.w * n) + (i * n + c) = omega arith in
            let at = j * (rect.w * n) + (i * n + c) in
            let in_row : i * n + c < rect.w * n =
            omega (arith, mul-add-lt i n c rect.w across some) in
            let below : at < count =
            omega (arith, mul-add-lt j (rect.w * n) (i * n + c) rect.h down in_row) in
            ap (slice_index numbers) k ∙ ap (λ (l : List ℕ). slice_index l at) all
            ∙ get_or-map-range_with_len number 0 count at at 0 below (zero-add at)
            ∙ number_at i j c across some;
      }

-- numbers given by an equal function
pub same_texels : (old new : ℕ → ℕ → ℕ → ℕ) (n : ℕ) (rect : Rect) (numbers : List ℕ)
    → ((x y c : ℕ) → old x y c ≡ new x y c) → AreTexelsOn old n rect numbers
    → AreTexelsOn new n rect numbers
same_texels old new n rect numbers same are = record {
  count = are.count;
  each = λ i j c across down some.
      are.each i j c across down some ∙ same (rect.x + i) (rect.y + j) c;
}
