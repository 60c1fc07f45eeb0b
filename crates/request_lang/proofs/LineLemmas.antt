-- The lines of a list one after the other, as a loop reads them.
use Rattle.std.proofs.Common.{◌≡◌, ℕ, zero, suc, ◌+◌, ◌-◌, ◌<◌, ◌≤◌, ◌==◌, true, false}
use Rattle.std.proofs.Common.{List, [], ◌∷◌, ◌++◌, length, get_or, take, drop}
use Rattle.std.proofs.Common.{Ok, Err, refl, sym, ap, ◌∙◌, append_assoc, add-one, arith}
use Rattle.std.proofs.lemmas.Bool.{le-leb, lt-leb}
use Rattle.std.proofs.lemmas.List.{append-nil, take_rest}
use Rattle.request_lang.specs.declared.request.Request.{Request}
use Rattle.request_lang.specs.declared.cause.Cause.{Cause}
use Rattle.request_lang.specs.declared.cause.Cause.TheVariants.{TooLong}
use Rattle.request_lang.specs.RequestForm.{request_of}
use Rattle.request_lang.specs.LineEnd.{IsLineEnd}
use Rattle.request_lang.specs.Grammar.{lines_of, content, is_passed_over}
use Rattle.request_lang.specs.Grammar.{before_rest, behind, bad_at}
use Rattle.request_lang.specs.Grammar.{requests_of, list_of, Parsed, max_list_bytes, whole_list}

-- ---- the first line

-- a line feed at i, and none before it, end the first line
lines_of_cut : (bytes : List ℕ) (i : ℕ) → i < length bytes → (get_or bytes i 0 == 10) ≡ true
    → ((k : ℕ) → k < i → (get_or bytes k 0 == 10) ≡ false)
    → lines_of bytes ≡ take i bytes ∷ lines_of (drop (suc i) bytes)
lines_of_cut [] i lt at before = absurd (omega arith)
lines_of_cut (b ∷ bytes) zero lt at before = rw at refl
lines_of_cut (b ∷ bytes) (suc i) lt at before =
    let later = lines_of_cut bytes i (omega arith) at (λ k h. before (suc k) (omega arith)) in
    rw (before 0 (omega arith), later) refl

-- without a line feed all of it is one line
lines_of_whole : (bytes : List ℕ) → 0 < length bytes
    → ((k : ℕ) → k < length bytes → (get_or bytes k 0 == 10) ≡ false) → lines_of bytes ≡ bytes ∷ []
lines_of_whole [] lt none = absurd (omega arith)
lines_of_whole (b ∷ []) lt none = rw (none 0 (omega arith)) refl
lines_of_whole (b ∷ c ∷ bytes) lt none =
    let later = lines_of_whole (c ∷ bytes) (omega arith) (λ k h. none (suc k) (omega arith)) in
    rw (none 0 (omega arith), later) refl

-- the first line ends at the first line feed
pub lines_of_first : (bytes : List ℕ) (i : ℕ) → IsLineEnd bytes i → i < length bytes
    → lines_of bytes ≡ take i bytes ∷ lines_of (take (length bytes - (i + 1)) (drop (i + 1) bytes))
lines_of_first bytes i ends inside =
    rw (take_rest bytes (i + 1), add-one)
    (lines_of_cut bytes i inside (ends.here inside) ends.before)

-- without a line feed all of it is the last line
pub lines_of_last : (bytes : List ℕ) → 0 < length bytes → IsLineEnd bytes (length bytes)
    → lines_of bytes ≡ bytes ∷ []
lines_of_last bytes some ends = lines_of_whole bytes some ends.before

pub ruleset first_line = (lines_of_first, lines_of_last)

-- ---- the requests so far

-- what was read before, in front of what is still read
abbrev pub with_front : List Request → Parsed → Parsed
with_front front (Ok rs) = Ok (front ++ rs)
with_front front (Err bad) = Err bad

-- one more request before the rest
regroup : (front : List Request) (number : ℕ) (r : Request) (rest : Parsed)
    → with_front front (before_rest number (Ok r) rest) ≡ with_front (front ++ r ∷ []) rest
regroup front number r (Ok rs) =
    ap (λ (xs : List Request). Ok xs) (sym (append_assoc front (r ∷ []) rs))
regroup front number r (Err bad) = refl

-- a list of few bytes is what its lines say
few_bytes : (bytes : List ℕ) → length bytes ≤ max_list_bytes
    → requests_of 1 0 (lines_of bytes) ≡ list_of bytes
unfolding list_of
few_bytes bytes few = rw (le-leb (length bytes) max_list_bytes few) refl

-- more bytes are no list
pub many_bytes : (bytes : List ℕ) → max_list_bytes < length bytes
    → list_of bytes ≡ Err (bad_at whole_list TooLong)
unfolding list_of
many_bytes bytes many = rw (lt-leb (length bytes) max_list_bytes many) refl

-- before the first line
none_before : (total : Parsed) → with_front [] total ≡ total
none_before (Ok rs) = refl
none_before (Err bad) = refl

pub none_read : (bytes : List ℕ) → length bytes ≤ max_list_bytes
    → with_front [] (requests_of 1 0 (lines_of bytes)) ≡ list_of bytes
none_read bytes few = none_before (requests_of 1 0 (lines_of bytes)) ∙ few_bytes bytes few

module _ (front : List Request) (number count : ℕ) (bytes line : List ℕ) (lines : List (List ℕ))
    (total : Parsed) where
  -- after a line that is passed over
  pub one_passed : with_front front (requests_of number count (lines_of bytes)) ≡ total
      → lines_of bytes ≡ line ∷ lines → is_passed_over (content line) ≡ true
      → with_front front (requests_of (number + 1) count lines) ≡ total
  unfolding requests_of
  one_passed so_far first e =
      let one : with_front front (requests_of number count (lines_of bytes))
      ≡ with_front front (requests_of (number + 1) count lines) = rw (first, e) refl in
      sym one ∙ so_far

  -- after a line that is a request
  pub one_more : (r : Request)
      → with_front front (requests_of number count (lines_of bytes)) ≡ total
      → lines_of bytes ≡ line ∷ lines → is_passed_over (content line) ≡ false
      → behind count (request_of (content line)) ≡ Ok r
      → with_front (front ++ r ∷ []) (requests_of (number + 1) (count + 1) lines) ≡ total
  unfolding requests_of
  one_more r so_far first kept e =
      let one : with_front front (requests_of number count (lines_of bytes))
      ≡ with_front (front ++ r ∷ []) (requests_of (number + 1) (count + 1) lines) =
      rw (first, kept, e) (regroup front number r (requests_of (number + 1) (count + 1) lines)) in
      sym one ∙ so_far

  -- at the first line that is faulty
  pub ends_at : (cause : Cause)
      → with_front front (requests_of number count (lines_of bytes)) ≡ total
      → lines_of bytes ≡ line ∷ lines → is_passed_over (content line) ≡ false
      → behind count (request_of (content line)) ≡ Err cause → total ≡ Err (bad_at number cause)
  unfolding requests_of
  ends_at cause so_far first kept e =
      let one : with_front front (requests_of number count (lines_of bytes))
      ≡ Err (bad_at number cause) = rw (first, kept, e) refl in
      sym so_far ∙ one

-- after the last line
pub all_read : (front : List Request) (number count : ℕ) (bytes : List ℕ)
    (total : Parsed)
    → with_front front (requests_of number count (lines_of bytes)) ≡ total → bytes ≡ []
    → total ≡ Ok front
unfolding requests_of
all_read front number count bytes total so_far none =
    let one : with_front front (requests_of number count (lines_of bytes)) ≡ Ok front =
    rw none (ap (λ (xs : List Request). Ok xs) (append-nil front)) in
    sym so_far ∙ one

pub ruleset read_so_far = (many_bytes, none_read, one_passed, one_more, ends_at, all_read)
