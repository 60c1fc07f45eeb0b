-- Where the directories and the tiles of a texture are: each after the one before.
use Rattle.std.proofs.Common.{◌≡◌, ℕ, zero, suc, ◌+◌, ◌-◌, ◌*◌, ◌^◌, ◌<◌, ◌≤◌, refl, ap, arith}
use Rattle.std.proofs.Common.{add-one}
use Rattle.tex_make.specs.Field.{directory_size}
use Rattle.tex_make.specs.Picture.{Picture}
use Rattle.tex_make.specs.Side.{texture_size, IsShort}
use Rattle.tex_make.specs.Texture.{directory_at, tiles_at, tile_count, tile_size, fields_of}
use Rattle.tex_make.specs.Texture.{header_size}

-- numbers that do not fall
rising : (f : ℕ → ℕ) → ((k : ℕ) → f k ≤ f (suc k)) → (i n : ℕ) → f i ≤ f (i + n)
rising f up i zero = let same : i + 0 ≡ i = omega arith in rw same (omega arith)
rising f up i (suc n) =
    let more : i + suc n ≡ suc (i + n) = omega arith in
    let before = rising f up i n in
    let next = up (i + n) in
    rw more (omega (arith, before, next))

module _ (p : Picture) (side : ℕ) where
  pub first_directory : directory_at p side 0 ≡ header_size
  unfolding directory_at
  first_directory = refl

  pub next_directory : (l : ℕ)
      → directory_at p side (l + 1) ≡ directory_at p side l + directory_size (fields_of p side l 0)
  unfolding directory_at
  next_directory l = ap (directory_at p side) (add-one l)

  pub first_tiles : tiles_at p side 0 ≡ directory_at p side p.levels
  unfolding tiles_at
  first_tiles = refl

  pub next_tiles : (l : ℕ)
      → tiles_at p side (l + 1) ≡ tiles_at p side l + tile_count p side l * tile_size p side
  unfolding tiles_at
  next_tiles l = ap (tiles_at p side) (add-one l)

  directory_rises : (l : ℕ) → directory_at p side l ≤ directory_at p side (suc l)
  unfolding directory_at
  directory_rises l = omega arith

  tiles_rise : (l : ℕ) → tiles_at p side l ≤ tiles_at p side (suc l)
  unfolding tiles_at
  tiles_rise l = omega arith

  -- no tiles lie past the end
  pub tiles_below : (l : ℕ) → l ≤ p.levels → tiles_at p side l ≤ texture_size p side
  tiles_below l low =
      let all : l + (p.levels - l) ≡ p.levels = omega arith in
      rw all at (rising (tiles_at p side) tiles_rise l (p.levels - l))

  pub directory_below : (l : ℕ) → l ≤ p.levels → directory_at p side l ≤ texture_size p side
  directory_below l low =
      let all : l + (p.levels - l) ≡ p.levels = omega arith in
      let before = rw all at (rising (directory_at p side) directory_rises l (p.levels - l)) in
      omega (arith, before, first_tiles, tiles_below 0 (omega arith))

  module _ (short : IsShort p side) (l : ℕ) (below : l < p.levels) where
    -- a directory ends within the bytes that four bytes can name
    pub directory_ends : directory_at p side l + directory_size (fields_of p side l 0) < 2 ^ 32
    directory_ends = omega (arith, short, next_directory l, directory_below (l + 1) (omega arith))

    -- the tiles of a level end below 2^32
    pub tiles_end : tiles_at p side l + tile_count p side l * tile_size p side < 2 ^ 32
    tiles_end = omega (arith, short, next_tiles l, tiles_below (l + 1) (omega arith))
