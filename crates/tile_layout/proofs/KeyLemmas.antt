-- The four numbers of a key, and the key of four numbers.
use Rattle.std.proofs.Common.{◌≡◌, ℕ, ◌+◌, ◌*◌, ◌/◌, ◌%◌, ◌^◌, ◌<◌, ◌≤◌, refl, sym, ap, ◌∙◌, arith}
use Rattle.std.proofs.lemmas.Nat.{shr_high, mod_low, shr-shr, shr_split, mod_below}
use Rattle.tile_layout.specs.Key.{file_bits, level_bits, index_bits}
use Rattle.tile_layout.specs.Key.{key_of, generation_of, file_of, level_of, index_of}
use Rattle.tile_layout.specs.Key.{FitsKey, HasParts, IsKey}

-- the file and its generation, as one number
abbrev file_number : ℕ → ℕ → ℕ
file_number generation file = generation * 2 ^ file_bits + file

-- the level, its file and its generation
abbrev level_number : ℕ → ℕ → ℕ → ℕ
level_number generation file level = file_number generation file * 2 ^ level_bits + level

module _ (g f l i : ℕ) (h : FitsKey g f l i) where
  without_index : key_of g f l i / 2 ^ index_bits ≡ level_number g f l
  unfolding key_of
  without_index = shr_high (level_number g f l) index_bits i h.index_high

  without_level : key_of g f l i / 2 ^ (level_bits + index_bits) ≡ file_number g f
  without_level =
      sym (shr-shr (key_of g f l i) index_bits level_bits)
      ∙ ap (λ n. n / 2 ^ level_bits) without_index
      ∙ shr_high (file_number g f) level_bits l h.level_high

  pub index_of-key_of : index_of (key_of g f l i) ≡ i
  unfolding index_of key_of
  index_of-key_of = mod_low (level_number g f l) index_bits i h.index_high

  pub level_of-key_of : level_of (key_of g f l i) ≡ l
  unfolding level_of
  level_of-key_of =
      ap (λ n. n % 2 ^ level_bits) without_index ∙ mod_low (file_number g f) level_bits l h.level_high

  pub file_of-key_of : file_of (key_of g f l i) ≡ f
  unfolding file_of
  file_of-key_of = ap (λ n. n % 2 ^ file_bits) without_level ∙ mod_low g file_bits f h.file_high

  pub generation_of-key_of : generation_of (key_of g f l i) ≡ g
  unfolding generation_of
  generation_of-key_of =
      sym (shr-shr (key_of g f l i) (level_bits + index_bits) file_bits)
      ∙ ap (λ n. n / 2 ^ file_bits) without_level ∙ shr_high g file_bits f h.file_high

  pub HasParts-key_of : HasParts g f l i (key_of g f l i)
  HasParts-key_of = record {
    generation_is = generation_of-key_of;
    file_is = file_of-key_of;
    level_is = level_of-key_of;
    index_is = index_of-key_of;
  }

  some_key : 1 ≤ key_of g f l i
  unfolding key_of
  some_key = let low = h.generation_low in omega arith

  pub IsKey-key_of : IsKey (key_of g f l i)
  IsKey-key_of = record {
    low = rw generation_of-key_of h.generation_low;
    high = rw generation_of-key_of h.generation_high;
    some = some_key;
  }

-- a key is the key of its four numbers
pub key_of-parts : (key : ℕ)
    → key_of (generation_of key) (file_of key) (level_of key) (index_of key) ≡ key
unfolding key_of generation_of file_of level_of index_of
key_of-parts key =
    let above : key / 2 ^ 32 / 2 ^ 12 ≡ key / 2 ^ 44 = shr-shr key 32 12 in
    let file : key / 2 ^ 32 / 2 ^ 12 * 2 ^ 12 + key / 2 ^ 32 % 2 ^ 12 ≡ key / 2 ^ 32 =
    shr_split (key / 2 ^ 32) 12 in
    let under : key / 2 ^ 27 / 2 ^ 5 ≡ key / 2 ^ 32 = shr-shr key 27 5 in
    let level : key / 2 ^ 27 / 2 ^ 5 * 2 ^ 5 + key / 2 ^ 27 % 2 ^ 5 ≡ key / 2 ^ 27 =
    shr_split (key / 2 ^ 27) 5 in
    let index : key / 2 ^ 27 * 2 ^ 27 + key % 2 ^ 27 ≡ key = shr_split key 27 in
    rw (← above, file, ← under, level) index

-- no other key has these four numbers
pub key_from_parts : (g f l i key : ℕ) → HasParts g f l i key → key ≡ key_of g f l i
key_from_parts g f l i key h =
    sym (key_of-parts key) ∙ (rw (h.generation_is, h.file_is, h.level_is, h.index_is) refl)

-- ---- the cells of a level, by the key of its first one

module _ (key i : ℕ) (is : IsKey key) (first : index_of key ≡ 0) (few : i < 2 ^ index_bits) where
  in_level_fits : FitsKey (generation_of key) (file_of key) (level_of key) i
  unfolding file_of level_of
  in_level_fits = record {
    generation_low = is.low;
    generation_high = is.high;
    file_high = mod_below (key / 2 ^ 32) (2 ^ 12) (omega arith);
    level_high = mod_below (key / 2 ^ 27) (2 ^ 5) (omega arith);
    index_high = few;
  }

  -- the key of its first cell, with the number of another added
  in_level : key + i ≡ key_of (generation_of key) (file_of key) (level_of key) i
  unfolding key_of
  in_level =
      let own : key_of (generation_of key) (file_of key) (level_of key) 0 ≡ key =
      ap (key_of (generation_of key) (file_of key) (level_of key)) (sym first) ∙ key_of-parts key in
      omega (arith, own)

  pub in_level_low : key + i < 2 ^ 64
  unfolding key_of
  in_level_low =
      let fits = in_level_fits in
      let low : generation_of key < 2 ^ 20 = fits.generation_high in
      let file : file_of key < 2 ^ 12 = fits.file_high in
      let level : level_of key < 2 ^ 5 = fits.level_high in
      omega (arith, in_level, low, file, level, few)

  pub in_level_parts : HasParts (generation_of key) (file_of key) (level_of key) i (key + i)
  in_level_parts = rw in_level (HasParts-key_of _ _ _ _ in_level_fits)

  pub in_level_key : IsKey (key + i)
  in_level_key = rw in_level (IsKey-key_of _ _ _ _ in_level_fits)
