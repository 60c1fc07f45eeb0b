-- Which numbers does an option take, and what is its default?
use Rattle.std.specs.Prelude.{◌≡◌, ℕ, ◌≤◌, ◌%◌, ◌==◌, ◌&&◌, ◌^◌, nat_le, List, Option, Some, None}
use Rattle.std.specs.Prelude.{if◌then◌else◌, option_and_then}
use Rattle.short_text.specs.Digits.{digits_number}
use Rattle.tiff_format.specs.Cut.{autotile_step, max_autotile}
use Rattle.command_line.specs.declared.range.NumberRange.{NumberRange}

-- from the least to the most in steps, and the default
abbrev pub range : ℕ → ℕ → ℕ → ℕ → NumberRange
range least most step default =
    record { least = least; most = most; step = step; default = default }

-- The option takes the number.
pub record Takes (range : NumberRange) (n : ℕ) : Type 0 where
  pub least : range.least ≤ n
  pub most : n ≤ range.most
  pub step : n % range.step ≡ 0

-- the number, if the option takes it
abbrev pub taken : NumberRange → ℕ → Option ℕ
taken range n =
    if nat_le range.least n && (nat_le n range.most && n % range.step == 0) then Some n else None

-- the number of 1 to 10 decimal digits, if the option takes it
abbrev pub value_in_range : NumberRange → List ℕ → Option ℕ
value_in_range range text = option_and_then (taken range) (digits_number text)

-- the number of an option with this value, or the default if it is not given
abbrev pub number_or_default : NumberRange → Option (List ℕ) → Option ℕ
number_or_default range None = Some range.default
number_or_default range (Some text) = value_in_range range text

-- ---- the ranges

-- --workers
abbrev pub workers : NumberRange
workers = range 1 16 1 4

-- --budget
abbrev pub budget : NumberRange
budget = range 0 (2 ^ 32) 1 (2 ^ 28)

-- --shards
abbrev pub shards : NumberRange
shards = range 1 64 1 16

-- --handles
abbrev pub handles : NumberRange
handles = range 1 1024 1 100

-- --autotile
abbrev pub autotile : NumberRange
autotile = range 0 max_autotile autotile_step 64

-- --slots
abbrev pub slots : NumberRange
slots = range 0 65536 1 1024
