-- Which cell does a key name?
--
-- A key is a 64-bit number: 20 bits for the generation, 12 for the file, 5 for the level, and the
-- lowest 27 for the cell's index in its level.
use Rattle.std.specs.Prelude.{◌≡◌, ℕ, ◌+◌, ◌*◌, ◌/◌, ◌%◌, ◌^◌, ◌<◌, ◌≤◌}

-- the bits of the generation
abbrev pub generation_bits : ℕ
generation_bits = 20

-- the bits of the file
abbrev pub file_bits : ℕ
file_bits = 12

-- the bits of the level
abbrev pub level_bits : ℕ
level_bits = 5

-- the bits of the cell's index
abbrev pub index_bits : ℕ
index_bits = 27

-- the key of a cell
unfoldable pub key_of : ℕ → ℕ → ℕ → ℕ → ℕ
key_of generation file level index =
    ((generation * 2 ^ file_bits + file) * 2 ^ level_bits + level) * 2 ^ index_bits + index

-- the generation of the file
unfoldable pub generation_of : ℕ → ℕ
generation_of key = key / 2 ^ (file_bits + level_bits + index_bits)

-- the number of the file
unfoldable pub file_of : ℕ → ℕ
file_of key = key / 2 ^ (level_bits + index_bits) % 2 ^ file_bits

-- the level of the file
unfoldable pub level_of : ℕ → ℕ
level_of key = key / 2 ^ index_bits % 2 ^ level_bits

-- the index of the cell in its level
unfoldable pub index_of : ℕ → ℕ
index_of key = key % 2 ^ index_bits

-- each of the four numbers fits its bits, and the generation is not 0
pub record FitsKey (generation file level index : ℕ) : Type 0 where
  pub generation_low : 1 ≤ generation
  pub generation_high : generation < 2 ^ generation_bits
  pub file_high : file < 2 ^ file_bits
  pub level_high : level < 2 ^ level_bits
  pub index_high : index < 2 ^ index_bits

-- the key has these four numbers
pub record HasParts (generation file level index key : ℕ) : Type 0 where
  pub generation_is : generation_of key ≡ generation
  pub file_is : file_of key ≡ file
  pub level_is : level_of key ≡ level
  pub index_is : index_of key ≡ index

-- the number is a key: its generation is not 0, and so it is not 0
pub record IsKey (key : ℕ) : Type 0 where
  pub low : 1 ≤ generation_of key
  pub high : generation_of key < 2 ^ generation_bits
  pub some : 1 ≤ key
