-- What do the fields of a line mean? (docs/REQUESTS.md, "Fields")
use Rattle.std.specs.Prelude.{ℕ, ◌-◌, ◌^◌, ◌==◌}
use Rattle.std.specs.Prelude.{◌&&◌, nat_le, ℤ, pos, neg_ℤ, codes}
use Rattle.std.specs.Prelude.{List, [], ◌∷◌, length}
use Rattle.std.specs.Prelude.{drop, slice_index, Option}
use Rattle.std.specs.Prelude.{Some, None, Result, Ok, Err, if◌then◌else◌}
use Rattle.std.specs.Option.{option_map, ok_or}
use Rattle.std.specs.Str.{bytes_eq}
use Rattle.short_text.specs.Words.{behind_space, cut}
use Rattle.short_text.specs.Digits.{digits_number}
use Rattle.tiff_format.specs.Limits.{max_channels}
use Rattle.texel_filter.specs.declared.mode.Wrap.{Wrap}
use Rattle.texel_filter.specs.declared.mode.Wrap.TheVariants.{Black, Clamp, Periodic, Mirror}
use Rattle.texel_filter.specs.declared.request.Filter.{Filter}
use Rattle.texel_filter.specs.declared.request.Filter.TheVariants.{Closest, Bilinear, Trilinear}
use Rattle.request_lang.specs.declared.cause.Cause.{Cause}
use Rattle.request_lang.specs.declared.cause.Cause.TheVariants.{MissingField, NotANumber}
use Rattle.request_lang.specs.declared.cause.Cause.TheVariants.{OutOfRange, UnknownChoice}

-- applies a function to a value, if there is one
abbrev pub mapped : {A B : Type 0} → (A → B) → Result A Cause → Result B Cause
mapped f (Ok v) = Ok (f v)
mapped f (Err cause) = Err cause

-- ---- where a field is

-- The next field, and what follows it: the field comes after one space, and ends before the next.
unfoldable pub next_field : List ℕ → Result (List ℕ × List ℕ) Cause
next_field rest = ok_or (option_map cut (behind_space rest)) MissingField

-- ---- numbers

-- the byte before a negative number
abbrev pub minus : ℕ
minus = 45

-- the greatest number in a field that allows no `-`
abbrev pub max_unsigned : ℕ
max_unsigned = 2 ^ 32 - 1

-- the greatest number without a `-`, in a field that allows one
abbrev pub max_above : ℕ
max_above = 2 ^ 31 - 1

-- the greatest number after a `-`
abbrev pub max_below : ℕ
max_below = 2 ^ 31

-- the greatest number without a `-`, in a field of a footprint
abbrev pub max_footprint_above : ℕ
max_footprint_above = 2 ^ 30 - 1

-- the greatest number after a `-`, in a field of a footprint
abbrev pub max_footprint_below : ℕ
max_footprint_below = 2 ^ 30

-- the least number of channels of a lookup
abbrev pub min_channels : ℕ
min_channels = 1

-- the number, if it is a number and in its range
abbrev pub within : ℕ → ℕ → Option ℕ → Result ℕ Cause
within least most None = Err NotANumber
within least most (Some n) = if nat_le least n && nat_le n most then Ok n else Err OutOfRange

-- the number in a range that a text spells
unfoldable pub number_within : ℕ → ℕ → List ℕ → Result ℕ Cause
number_within least most text = within least most (digits_number text)

-- LOD, LEVEL, W, H, and X and Y of `hold`: a number of 32 bits
abbrev pub unsigned : List ℕ → Result ℕ Cause
unsigned text = number_within 0 max_unsigned text

-- NCH: a number of channels
abbrev pub channel_count : List ℕ → Result ℕ Cause
channel_count text = number_within min_channels max_channels text

-- a number that may begin with a `-`; the limits are those after a `-` and those without
abbrev pub signed_within : ℕ → ℕ → List ℕ → Result ℤ Cause
signed_within below above text =
    if slice_index text 0 == minus
    then mapped (λ n. neg_ℤ (pos n)) (number_within 0 below (drop 1 text))
    else mapped pos (number_within 0 above text)

-- S, T, and X and Y of a region: a signed number of 32 bits
unfoldable pub signed : List ℕ → Result ℤ Cause
signed text = signed_within max_below max_above text

-- S, T and the four derivatives of a footprint: a signed number of 31 bits
unfoldable pub footprint_number : List ℕ → Result ℤ Cause
footprint_number text = signed_within max_footprint_below max_footprint_above text

-- ---- words

-- what a word means, by a table of words
abbrev pub meaning : {A : Type 0} → List (List ℕ × A) → List ℕ → Option A
meaning [] text = None
meaning (row ∷ rows) text = if bytes_eq text row.0 then Some row.1 else meaning rows text

-- the words of a wrap
abbrev pub wrap_words : List (List ℕ × Wrap)
wrap_words =
    (codes "black", Black)
    ∷ (codes "clamp", Clamp)
    ∷ (codes "periodic", Periodic)
    ∷ (codes "mirror", Mirror) ∷ []

-- the words of a filter
abbrev pub filter_words : List (List ℕ × Filter)
filter_words =
    (codes "closest", Closest)
    ∷ (codes "bilinear", Bilinear)
    ∷ (codes "trilinear", Trilinear) ∷ []

-- SWRAP and TWRAP: a wrap
unfoldable pub wrap_mode : List ℕ → Result Wrap Cause
wrap_mode text = ok_or (meaning wrap_words text) UnknownChoice

-- FILTER: a filter
unfoldable pub filter_mode : List ℕ → Result Filter Cause
filter_mode text = ok_or (meaning filter_words text) UnknownChoice

-- ---- fields in general

-- what the text of a field means, and what follows it
abbrev pub spelled : {A : Type 0} → (List ℕ → Result A Cause) → Result (List ℕ × List ℕ) Cause
    → Result (A × List ℕ) Cause
spelled kind (Err cause) = Err cause
spelled kind (Ok f) = mapped (λ v. (v, f.1)) (kind f.0)

-- the next field of a kind, and what follows it
abbrev pub field : {A : Type 0} → (List ℕ → Result A Cause) → List ℕ → Result (A × List ℕ) Cause
field kind rest = spelled kind (next_field rest)

-- the text, if it is not empty
abbrev pub filled : Option (List ℕ) → Result (List ℕ) Cause
filled None = Err MissingField
filled (Some text) = if length text == 0 then Err MissingField else Ok text

-- NAME: everything after one space, which must not be empty
unfoldable pub name_field : List ℕ → Result (List ℕ) Cause
name_field rest = filled (behind_space rest)
