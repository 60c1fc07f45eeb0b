-- Pictures that have the same levels with the same samples have the same texture.
use Rattle.std.specs.Prelude.{nat_lt, if◌then◌else◌}
use Rattle.std.proofs.Common.{◌≡◌, ℕ, zero, suc, ◌+◌, ◌*◌, ◌/◌, ◌%◌, ◌<◌, ◌≤◌, List, ◌++◌, map}
use Rattle.std.proofs.Common.{refl, sym, ap, ◌∙◌, arith, inl, inr}
use Rattle.std.specs.Int.{byte_at}
use Rattle.std.specs.List.{range_with_len}
use Rattle.std.proofs.lemmas.Bool.{cases_lt}
use Rattle.std.proofs.lemmas.List.FromFn.{fill_by_all, length-map-range_with_len, get_or-map-range_with_len}
use Rattle.std.proofs.lemmas.Nat.{mod_below}
use Rattle.tiff_format.specs.Block.{pieces_over, sample_bytes}
use Rattle.tex_make.specs.declared.field.Field.{Field}
use Rattle.tex_make.specs.Field.{directory_size, directory_bytes}
use Rattle.tex_make.specs.Joined.{joined}
use Rattle.tex_make.specs.Picture.{Picture, AreAlike}
use Rattle.tex_make.specs.Texture.{tiles_across, tiles_down, tile_count, tile_size, padded_sample}
use Rattle.tex_make.specs.Texture.{tile_byte, tile_bytes, level_tiles, fields_of, directory_at, tiles_at}
use Rattle.tex_make.specs.Texture.{next_at, directory_of, head_of, header, texture_of}
use Rattle.tex_make.proofs.TileBytes.{padded_in, padded_right, padded_down, product_is}

joined_alike : (f g : ℕ → List ℕ) (n : ℕ) → ((i : ℕ) → i < n → f i ≡ g i) → joined f n ≡ joined g n
joined_alike f g zero same = refl
joined_alike f g (suc n) same =
    ap (λ (xs : List ℕ). xs ++ f n) (joined_alike f g n (λ i low. same i (omega arith)))
    ∙ ap (λ (xs : List ℕ). joined g n ++ xs) (same n (omega arith))

module _ (p q : Picture) (same : AreAlike p q) (some : 1 ≤ p.channels) (side : ℕ) where
  -- ---- tiles

  module _ (l : ℕ) (below : l < p.levels) where
    padded_alike : (x y c : ℕ) → c < p.channels → padded_sample p l x y c ≡ padded_sample q l x y c
    padded_alike x y c channel =
        let width = same.width l below in
        let height = same.height l below in
        elim (cases_lt x (p.width l)) [
          | inl across ↦ elim (cases_lt y (p.height l)) [
            | inl down ↦
                padded_in p l x y c across down ∙ same.samples l x y c below across down channel
                ∙ sym (padded_in q l x y c (omega (arith, across, width)) (omega (arith, down, height)))
            | inr under ↦
                padded_down p l x y c under ∙ sym (padded_down q l x y c (omega (arith, under, height)))
          ]
          | inr right ↦
              padded_right p l x y c right ∙ sym (padded_right q l x y c (omega (arith, right, width)))
        ]

    across_alike : tiles_across p side l ≡ tiles_across q side l
    across_alike = ap (λ (w : ℕ). pieces_over w side) (same.width l below)

    count_alike : tile_count p side l ≡ tile_count q side l
    count_alike = product_is (tiles_across p side l) (tiles_down p side l) (tiles_across q side l)
        (tiles_down q side l) across_alike
        (ap (λ (h : ℕ). pieces_over h side) (same.height l below))

    byte_alike : (i k : ℕ) → tile_byte p side l i k ≡ tile_byte q side l i k
    byte_alike i k =
        let s = sample_bytes p.depth in
        let n = p.channels in
        let a = tiles_across p side l in
        let byte : ℕ → ℕ → ℕ → ℕ = λ a s n. byte_at (k % s) (padded_sample q l
        (i % a * side + k / s / n % side) (i / a * side + k / s / n / side) (k / s % n)) in
        ap (byte_at (k % s)) (padded_alike (i % a * side + k / s / n % side)
        (i / a * side + k / s / n / side) (k / s % n) (mod_below (k / s) n some))
        ∙ ap (λ (b : ℕ). byte b s n) across_alike
        ∙ ap (λ (d : ℕ). byte (tiles_across q side l) (sample_bytes d) n) same.depth
        ∙ ap (λ (m : ℕ). byte (tiles_across q side l) (sample_bytes q.depth) m) same.channels

  size_alike : tile_size p side ≡ tile_size q side
  size_alike =
      ap (λ (n : ℕ). side * side * (n * sample_bytes p.depth)) same.channels
      ∙ ap (λ (d : ℕ). side * side * (q.channels * sample_bytes d)) same.depth

  tile_alike : (l : ℕ) → l < p.levels → (i : ℕ) → tile_bytes p side l i ≡ tile_bytes q side l i
  unfolding tile_bytes
  tile_alike l below i =
      let n = tile_size p side in
      fill_by_all (tile_byte q side l i) (map (tile_byte p side l i) (range_with_len 0 n)) n 0
      (length-map-range_with_len (tile_byte p side l i) 0 n)
      (λ k low. get_or-map-range_with_len (tile_byte p side l i) 0 n k k 0 low (omega arith)
      ∙ byte_alike l below i k)
      ∙ ap (λ (m : ℕ). map (tile_byte q side l i) (range_with_len 0 m)) size_alike

  level_alike : (l : ℕ) → l < p.levels → level_tiles p side l ≡ level_tiles q side l
  unfolding level_tiles
  level_alike l below =
      joined_alike (tile_bytes p side l) (tile_bytes q side l) (tile_count p side l)
      (λ i low. tile_alike l below i)
      ∙ ap (joined (tile_bytes q side l)) (count_alike l below)

  -- ---- directories

  fields_alike : (l first : ℕ) → l < p.levels → fields_of p side l first ≡ fields_of q side l first
  unfolding fields_of
  fields_alike l first below =
      rw (same.width l below, same.height l below, same.channels, same.depth, same.rgb) refl

  directory_at_alike : (l : ℕ) → l ≤ p.levels → directory_at p side l ≡ directory_at q side l
  unfolding directory_at
  directory_at_alike zero low = refl
  directory_at_alike (suc l) low =
      ap (λ (n : ℕ). n + directory_size (fields_of p side l 0)) (directory_at_alike l (omega arith))
      ∙ ap (λ (fs : List Field). directory_at q side l + directory_size fs) (fields_alike l 0 low)

  tiles_at_alike : (l : ℕ) → l ≤ p.levels → tiles_at p side l ≡ tiles_at q side l
  unfolding tiles_at
  tiles_at_alike zero low =
      directory_at_alike p.levels (omega arith) ∙ ap (directory_at q side) same.levels
  tiles_at_alike (suc l) low =
      ap (λ (n : ℕ). n + tile_count p side l * tile_size p side) (tiles_at_alike l (omega arith))
      ∙ ap (λ (n : ℕ). tiles_at q side l + n * tile_size p side) (count_alike l low)
      ∙ ap (λ (n : ℕ). tiles_at q side l + tile_count q side l * n) size_alike

  next_alike : (l : ℕ) → l < p.levels → next_at p side l ≡ next_at q side l
  next_alike l below =
      ap (λ (n : ℕ). if nat_lt (suc l) p.levels then n else 0) (directory_at_alike (suc l) below)
      ∙ ap (λ (n : ℕ). if nat_lt (suc l) n then directory_at q side (suc l) else 0) same.levels

  directory_alike : (l : ℕ) → l < p.levels → directory_of p side l ≡ directory_of q side l
  unfolding directory_of
  directory_alike l below =
      ap (λ (n : ℕ). directory_bytes n (next_at p side l) (fields_of p side l (tiles_at p side l)))
      (directory_at_alike l (omega arith))
      ∙ ap (λ (n : ℕ). directory_bytes (directory_at q side l) n
      (fields_of p side l (tiles_at p side l))) (next_alike l below)
      ∙ ap (λ (n : ℕ). directory_bytes (directory_at q side l) (next_at q side l)
      (fields_of p side l n)) (tiles_at_alike l (omega arith))
      ∙ ap (λ (fs : List Field). directory_bytes (directory_at q side l) (next_at q side l) fs)
      (fields_alike l (tiles_at q side l) below)

  -- ---- all of it

  pub texture_alike : texture_of p side ≡ texture_of q side
  unfolding texture_of head_of
  texture_alike =
      ap (λ (xs : List ℕ). (header ++ xs) ++ joined (level_tiles p side) p.levels)
      (joined_alike (directory_of p side) (directory_of q side) p.levels directory_alike
      ∙ ap (joined (directory_of q side)) same.levels)
      ∙ ap (λ (xs : List ℕ). (header ++ joined (directory_of q side) q.levels) ++ xs)
      (joined_alike (level_tiles p side) (level_tiles q side) p.levels level_alike
      ∙ ap (joined (level_tiles q side)) same.levels)
