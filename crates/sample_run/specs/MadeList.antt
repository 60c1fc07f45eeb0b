-- Which list is made from a number? (docs/REQUESTS.md, "The sample program")
use Rattle.std.specs.Prelude.{ℕ, zero, suc, ◌+◌, ◌%◌, ◌==◌, Bool, codes, List, [], ◌∷◌, ◌++◌}
use Rattle.std.specs.Prelude.{if◌then◌else◌}
use Rattle.request_lang.specs.Grammar.{line_feed}
use Rattle.sample_run.specs.Draw.{first_state}
use Rattle.sample_run.specs.SampleLookup.{lookup, lookup_text, behind_lookup}

-- every 4096th request, counted from 0, is a `sync`
abbrev pub is_sync : ℕ → Bool
is_sync number = number % 4096 == 4095

-- the text of the request with a number, made from a state
abbrev pub request_text : ℕ → ℕ → List ℕ
request_text number state =
    if is_sync number then codes "sync" else lookup_text (lookup state)

-- the state after the request was made
abbrev pub behind_request : ℕ → ℕ → ℕ
behind_request number state = if is_sync number then state else behind_lookup state

-- the line of the request
abbrev pub request_line : ℕ → ℕ → List ℕ
request_line number state = request_text number state ++ line_feed ∷ []

-- The lines of this many requests. The first has this number and is made from this state.
abbrev pub lines_from : ℕ → ℕ → ℕ → List ℕ
lines_from number state zero = []
lines_from number state (suc count) =
    request_line number state ++ lines_from (number + 1) (behind_request number state) count

-- the list with this many requests
unfoldable pub made_list : ℕ → List ℕ
made_list count = lines_from 0 first_state count
