-- Which number do decimal digits make?
use Rattle.std.specs.Prelude.{◌≡◌, ℕ, ◌+◌, ◌*◌, ◌-◌, ◌<◌, ◌≤◌, ◌&&◌, nat_le, nat_lt, List, length}
use Rattle.std.specs.Prelude.{take, fold, slice_index, true, false, Option, Some, None}
use Rattle.std.specs.Prelude.{if◌then◌else◌}
use Rattle.std.specs.Char.{is_ascii_digit}
use Rattle.std.specs.List.{list_all}

-- the byte of the digit 0
abbrev pub zero_digit : ℕ
zero_digit = 48

-- the most digits of a number
abbrev pub max_digits : ℕ
max_digits = 10

-- the number that 1 to `max_digits` decimal digits make
unfoldable pub digits_number : List ℕ → Option ℕ
digits_number text =
    if nat_lt 0 (length text) && (nat_le (length text) max_digits && list_all is_ascii_digit text)
    then Some (fold (λ n digit. n * 10 + (digit - zero_digit)) 0 text) else None

-- the number made of the leading digits, of which at most `max_digits` are read, and how many they
-- are
pub record LeadsWith (text : List ℕ) (number count : ℕ) : Type 0 where
  pub within : count ≤ length text
  pub few : count ≤ max_digits
  pub digits : list_all is_ascii_digit (take count text) ≡ true
  pub spelled : number ≡ fold (λ n digit. n * 10 + (digit - zero_digit)) 0 (take count text)
  pub stop : count < length text → count < max_digits
      → is_ascii_digit (slice_index text count) ≡ false
