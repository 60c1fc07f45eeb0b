-- What do the arguments ask for? (docs/REQUESTS.md, "The sample program")
use Rattle.std.specs.Prelude.{ℕ, ◌≤◌, ◌&&◌, nat_le, List, [], ◌∷◌, Option, Some, None}
use Rattle.std.specs.Prelude.{if◌then◌else◌, option_and_then, option_map, codes, decimal}
use Rattle.short_text.specs.Digits.{digits_number}
use Rattle.request_lang.specs.Grammar.{max_requests}
use Rattle.sample_run.specs.declared.size.Size.{Size}

-- the most workers
abbrev pub max_workers : ℕ
max_workers = 16

-- the number, if it is in its range
abbrev pub taken : ℕ → ℕ → ℕ → Option ℕ
taken least most n = if nat_le least n && nat_le n most then Some n else None

-- the number that 1 to 10 decimal digits make, if it is in its range
abbrev pub number : ℕ → ℕ → List ℕ → Option ℕ
number least most word = option_and_then (taken least most) (digits_number word)

-- both numbers, if they are there
abbrev pub size_of : Option ℕ → Option ℕ → Option Size
size_of requests workers =
    option_and_then (λ n. option_map (λ w. record { requests = n; workers = w }) workers) requests

-- what the arguments ask for, if they are two such numbers
abbrev pub size_in : List (List ℕ) → Option Size
size_in (requests ∷ workers ∷ []) =
    size_of (number 0 max_requests requests) (number 1 max_workers workers)
size_in _ = None

-- both are in their ranges
pub record IsInRange (s : Size) : Type 0 where
  pub requests : s.requests ≤ max_requests
  pub workers : (1 ≤ s.workers) × (s.workers ≤ max_workers)

-- the arguments of the run: its folder, and the number of workers
abbrev pub run_words : ℕ → List (List ℕ)
run_words workers = codes "." ∷ codes "--workers" ∷ decimal workers ∷ []
