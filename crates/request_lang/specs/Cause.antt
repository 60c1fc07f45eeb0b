-- Which number is printed for a cause? (docs/REQUESTS.md, "Causes")
use Rattle.std.specs.Prelude.{ℕ}
use Rattle.request_lang.specs.declared.cause.Cause.{Cause}
use Rattle.request_lang.specs.declared.cause.Cause.TheVariants.{UnknownWord, MissingField}
use Rattle.request_lang.specs.declared.cause.Cause.TheVariants.{NotANumber, OutOfRange}
use Rattle.request_lang.specs.declared.cause.Cause.TheVariants.{UnknownChoice, TrailingText}
use Rattle.request_lang.specs.declared.cause.Cause.TheVariants.{NotUtf8, TooManyRequests, TooLong}

-- the number of a cause in the table of causes
abbrev pub cause_number : Cause → ℕ
cause_number UnknownWord = 1
cause_number MissingField = 2
cause_number NotANumber = 3
cause_number OutOfRange = 4
cause_number UnknownChoice = 5
cause_number TrailingText = 6
cause_number NotUtf8 = 7
cause_number TooManyRequests = 8
cause_number TooLong = 9
