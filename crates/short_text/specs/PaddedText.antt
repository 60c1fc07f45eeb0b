-- What does the table with the texts of all values contain?
use Rattle.std.specs.Prelude.{◌≡◌, ◌≤◌, ◌<◌, ℕ, List, [], length, take, slice_index, slice_index_or}
use Rattle.short_text.specs.Words.{space}
use Rattle.short_text.specs.Number.{number_behind}

-- the bytes of a padded text
abbrev pub padded_bytes : ℕ
padded_bytes = 8

-- the most bytes of a 16-bit value and its space
abbrev pub max_value_bytes : ℕ
max_value_bytes = 6

-- the last byte says how many of the bytes are the text: a space and the value
pub record IsPaddedText (n : ℕ) (padded : List ℕ) : Type 0 where
  pub text : take (slice_index padded 7) padded ≡ number_behind space n
  pub few : slice_index padded 7 ≤ max_value_bytes
  pub whole : length padded ≡ padded_bytes

-- each entry is the padded text of its index
abbrev pub HoldsTexts : List (List ℕ) → Type 0
HoldsTexts texts = (k : ℕ) → k < length texts → IsPaddedText k (slice_index_or texts k [])
