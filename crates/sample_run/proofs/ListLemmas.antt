-- Which requests has the made list?
use Rattle.std.proofs.Common.{◌≡◌, ℕ, zero, suc, ◌+◌, ◌-◌, ◌≤◌, Bool, true, false, codes}
use Rattle.std.proofs.Common.{List, [], ◌∷◌, ◌++◌, length, get_or, Ok, refl, arith, append_assoc}
use Rattle.std.specs.Prelude.{if◌then◌else◌}
use Rattle.std.specs.List.{list_all}
use Rattle.std.proofs.lemmas.Bool.{and_parts, lt-ltb, le-leb, ne_eqb}
use Rattle.request_lang.specs.Grammar.{lines_of, content, is_passed_over, requests_of, list_of}
use Rattle.request_lang.specs.Grammar.{max_requests, max_list_bytes}
use Rattle.request_lang.specs.RequestForm.{request_of}
use Rattle.request_lang.specs.declared.request.Request.{Request}
use Rattle.request_lang.specs.declared.request.Request.TheVariants.{Tex, Sync}
use Rattle.sample_run.specs.declared.lookup.SampleLookup.{SampleLookup}
use Rattle.sample_run.specs.Draw.{first_state}
use Rattle.sample_run.specs.SampleLookup as made
use Rattle.sample_run.specs.MadeList as spec
use Rattle.sample_run.proofs.PlainLemmas.{ArePrinted, is_printed, no_control, printed_at}
use Rattle.sample_run.proofs.PlainLemmas.{printed_text}
use Rattle.sample_run.proofs.LookupLemmas.{lookup_printed, lookup_reads, lookup_listed}

-- the request of a number, which is made in a state
abbrev pub request_made : ℕ → ℕ → Request
request_made number state =
    if spec.is_sync number then Sync
    else Tex (made.lookup state).request (made.file_name (made.lookup state).file)

-- this many requests; the first has this number and is made from this state
abbrev pub requests_made : ℕ → ℕ → ℕ → List Request
requests_made number state zero = []
requests_made number state (suc count) =
    request_made number state
    ∷ requests_made (number + 1) (spec.behind_request number state) count

-- ---- one line

-- a line feed ends a line
lines_of_line : (line rest : List ℕ) → ArePrinted line
    → lines_of (line ++ 10 ∷ rest) ≡ line ∷ lines_of rest
lines_of_line [] rest printed = refl
lines_of_line (b ∷ line) rest printed =
    let parts = and_parts (is_printed b) (list_all is_printed line) printed in
    rw (no_control b 10 (omega arith) parts.0, lines_of_line line rest parts.1) refl

-- a made line does not end with a carriage return
content_is : (line : List ℕ) → ArePrinted line → content line ≡ line
unfolding content
content_is [] printed = refl
content_is (b ∷ line) printed =
    let last = printed_at (b ∷ line) (length (b ∷ line) - 1) printed (omega arith) in
    rw (no_control (get_or (b ∷ line) (length (b ∷ line) - 1) 0) 13 (omega arith) last) refl

-- ---- the text of a request

-- the line of a lookup is not skipped
lookup_not_passed : (l : SampleLookup) → is_passed_over (made.lookup_text l) ≡ false
lookup_not_passed l =
    rw (ne_eqb (length (made.lookup_text l)) 0 (λ none. absurd (omega (arith, none)))) refl

sync_not_passed : is_passed_over (codes "sync") ≡ false
sync_not_passed = refl

sync_reads : request_of (codes "sync") ≡ Ok Sync
unfolding request_of
sync_reads = rw (printed_text (codes "sync") refl) refl

module _ (number state : ℕ) where
  text_printed : ArePrinted (spec.request_text number state)
  text_printed = by_test (spec.is_sync number)
    where
      by_test : (b : Bool)
          → ArePrinted (if b then codes "sync" else made.lookup_text (made.lookup state))
      by_test true = refl
      by_test false = lookup_printed (made.lookup state) (lookup_listed state)

  text_not_passed : is_passed_over (spec.request_text number state) ≡ false
  text_not_passed = by_test (spec.is_sync number)
    where
      by_test : (b : Bool)
          → is_passed_over (if b then codes "sync" else made.lookup_text (made.lookup state))
          ≡ false
      by_test true = sync_not_passed
      by_test false = lookup_not_passed (made.lookup state)

  text_reads : request_of (spec.request_text number state) ≡ Ok (request_made number state)
  text_reads = by_test (spec.is_sync number)
    where
      by_test : (b : Bool)
          → request_of (if b then codes "sync" else made.lookup_text (made.lookup state))
          ≡ Ok (if b then Sync
          else Tex (made.lookup state).request (made.file_name (made.lookup state).file))
      by_test true = sync_reads
      by_test false = lookup_reads (made.lookup state) (lookup_listed state)

-- ---- the list

-- the lines of requests are read as these requests, after others
lines_read : (number state count line before : ℕ) → before + count ≤ max_requests
    → requests_of line before (lines_of (spec.lines_from number state count))
    ≡ Ok (requests_made number state count)
unfolding requests_of
lines_read number state zero line before few = refl
lines_read number state (suc count) line before few =
    let text = spec.request_text number state in
    let rest = spec.lines_from (number + 1) (spec.behind_request number state) count in
    let printed = text_printed number state in
    rw (
      append_assoc text (10 ∷ []) rest,
      lines_of_line text rest printed,
      content_is text printed,
      text_not_passed number state,
      text_reads number state,
      lt-ltb before max_requests (omega (arith, few)),
      lines_read (number + 1) (spec.behind_request number state) count (line + 1) (before + 1)
          (omega (arith, few)),
    ) refl

-- the made list is valid, if it is not too long
pub list_reads : (count : ℕ) → count ≤ max_requests
    → length (spec.made_list count) ≤ max_list_bytes
    → list_of (spec.made_list count) ≡ Ok (requests_made 0 first_state count)
unfolding list_of spec.made_list
list_reads count few short =
    rw (le-leb (length (spec.made_list count)) max_list_bytes short)
    (lines_read 0 first_state count 1 0 (omega (arith, few)))
