-- What does a list of requests say? (docs/REQUESTS.md, "The list")
use Rattle.std.specs.Prelude.{ℕ, ◌+◌, ◌-◌, ◌==◌, ◌||◌, Bool}
use Rattle.std.specs.Prelude.{nat_le, nat_lt, List, [], ◌∷◌, length, take}
use Rattle.std.specs.Prelude.{slice_index, Result, Ok, Err, if◌then◌else◌}
use Rattle.request_lang.specs.declared.request.Request.{Request}
use Rattle.request_lang.specs.declared.cause.BadList.{BadList}
use Rattle.request_lang.specs.declared.cause.Cause.{Cause}
use Rattle.request_lang.specs.declared.cause.Cause.TheVariants.{TooManyRequests, TooLong}
use Rattle.request_lang.specs.Cause.{cause_number}
use Rattle.request_lang.specs.RequestForm.{request_of}

-- ---- lines

-- the byte that ends a line
abbrev pub line_feed : ℕ
line_feed = 10

-- the byte that is dropped once at the end of a line
abbrev pub carriage_return : ℕ
carriage_return = 13

-- the first byte of a comment line
abbrev pub hash : ℕ
hash = 35

-- the lines after a byte is added before the first line
abbrev pub in_front : ℕ → List (List ℕ) → List (List ℕ)
in_front b [] = (b ∷ []) ∷ []
in_front b (line ∷ lines) = (b ∷ line) ∷ lines

-- the lines of a list: each ends at a line feed, which the last may lack
abbrev pub lines_of : List ℕ → List (List ℕ)
lines_of [] = []
lines_of (b ∷ bytes) = if b == line_feed then [] ∷ lines_of bytes else in_front b (lines_of bytes)

-- a line without its carriage return, if it ends with one
unfoldable pub content : List ℕ → List ℕ
content line =
    if slice_index line (length line - 1) == carriage_return then take (length line - 1) line
    else line

-- whether the line is empty or begins with `#`; it is counted, but says nothing
abbrev pub is_passed_over : List ℕ → Bool
is_passed_over line = (length line == 0) || (slice_index line 0 == hash)

-- ---- a list

-- the most bytes of a list
abbrev pub max_list_bytes : ℕ
max_list_bytes = 16777216

-- the most requests of a list
abbrev pub max_requests : ℕ
max_requests = 1048576

-- the line number that means the whole list; lines are counted from 1
abbrev pub whole_list : ℕ
whole_list = 0

-- the content of a list: its requests, or the first invalid line and its cause
abbrev pub Parsed : Type 0
Parsed = Result (List Request) BadList

-- the error for the line with this number and this cause
abbrev pub bad_at : ℕ → Cause → BadList
bad_at number cause = record { line = number; why = cause_number cause }

-- a request after this many others; one more than a list may have is an error
abbrev pub behind : ℕ → Result Request Cause → Result Request Cause
behind count (Ok request) =
    if nat_lt count max_requests then Ok request else Err TooManyRequests
behind count (Err cause) = Err cause

-- what a line says, followed by what the later lines say
abbrev pub before_rest : ℕ → Result Request Cause → Parsed → Parsed
before_rest number (Err cause) rest = Err (bad_at number cause)
before_rest number (Ok request) (Ok requests) = Ok (request ∷ requests)
before_rest number (Ok request) (Err bad) = Err bad

-- The requests of these lines, or the first invalid one. The first line has this number, and this
-- many requests come before it.
unfoldable pub requests_of : ℕ → ℕ → List (List ℕ) → Parsed
requests_of number count [] = Ok []
requests_of number count (line ∷ lines) =
    if is_passed_over (content line) then requests_of (number + 1) count lines
    else before_rest number (behind count (request_of (content line)))
    (requests_of (number + 1) (count + 1) lines)

-- The content of a list: too long, which is checked first; or its requests; or the first invalid
-- line, counted from 1.
unfoldable pub list_of : List ℕ → Parsed
list_of bytes =
    if nat_le (length bytes) max_list_bytes then requests_of 1 0 (lines_of bytes)
    else Err (bad_at whole_list TooLong)
