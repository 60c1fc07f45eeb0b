-- What is true of each request that a form gives holds of each request of a list.
use Rattle.std.proofs.Common.{◌≡◌, ℕ, ◌+◌, nat_lt, ◌==◌, Bool, true, false, List, [], ◌∷◌, refl}
use Rattle.std.proofs.Common.{ap, length, nat_le, Option, Some, None, Result, Ok, Err}
use Rattle.std.specs.Prelude.{if◌then◌else◌, ⊤}
use Rattle.std.specs.Str.{bytes_eq, is_utf8}
use Rattle.std.specs.List.{All}
use Rattle.std.proofs.lemmas.List.Elements.{All-nil, All-cons}
use Rattle.request_lang.specs.declared.request.Request.{Request}
use Rattle.request_lang.specs.declared.cause.Cause.{Cause}
use Rattle.request_lang.specs.declared.cause.Cause.TheVariants.{TrailingText, NotUtf8}
use Rattle.request_lang.specs.declared.cause.Cause.TheVariants.{TooManyRequests, TooLong}
use Rattle.request_lang.specs.LineField.{spelled, mapped, name_field, meaning}
use Rattle.short_text.specs.Words.{before_space, from_space}
use Rattle.request_lang.specs.RequestForm.{RequestForm, then_with, named, alone}
use Rattle.request_lang.specs.RequestForm.{forms, formed, request_of}
use Rattle.request_lang.specs.Grammar.{Parsed, requests_of, list_of, lines_of, behind, before_rest}
use Rattle.request_lang.specs.Grammar.{content, is_passed_over, max_list_bytes, max_requests}
use Rattle.request_lang.specs.Grammar.{bad_at, whole_list}

-- ---- fields

-- a field was found, with what follows it
pub record Found {A : Type 0} (f : Result (A × List ℕ) Cause) (rest : A → RequestForm) (r : Request)
    : Type 0 where
  pub value : A
  pub behind : List ℕ
  pub is : f ≡ Ok (value, behind)
  pub gives : rest value behind ≡ Ok r

pub found : {A : Type 0} (f : Result (A × List ℕ) Cause) (rest : A → RequestForm) (r : Request)
    → then_with f rest ≡ Ok r → Found f rest r
found (Ok (value, behind)) rest r is = record {
  value = value;
  behind = behind;
  is = refl;
  gives = is;
}
found (Err cause) rest r is = absurd cc

-- the text of a field that was found spells its value
pub spells : {A : Type 0} (kind : List ℕ → Result A Cause) (next : Result (List ℕ × List ℕ) Cause)
    (value : A) (behind : List ℕ) → spelled kind next ≡ Ok (value, behind)
    → (text : List ℕ) × (kind text ≡ Ok value)
spells {A = A} kind (Err cause) value behind is = absurd cc
spells {A = A} kind (Ok (text, rest)) value behind is = (text, of (kind text) rest value behind is)
  where
    of : (r : Result A Cause) (c : List ℕ) (v : A) (b : List ℕ)
        → mapped {B = A × List ℕ} (λ (x : A). (x, c)) r ≡ Ok (v, b) → r ≡ Ok v
    of (Ok x) c v b is = ap (mapped {B = A} (λ (p : A × List ℕ). p.0)) is
    of (Err cause) c v b is = absurd cc

-- ---- forms

-- a request that is made of a name
pub named_is : (make : List ℕ → Request) (name : Result (List ℕ) Cause) (r : Request)
    → mapped make name ≡ Ok r → (n : List ℕ) × (r ≡ make n)
named_is make (Ok n) r is = (n, cc)
named_is make (Err cause) r is = absurd cc

-- ---- lists

-- a request that is not one too many is what its line says
good_behind : (count : ℕ) (said : Result Request Cause) (r : Request) → behind count said ≡ Ok r
    → said ≡ Ok r
good_behind count (Err cause) r is = absurd cc
good_behind count (Ok request) r is = by_test (nat_lt count max_requests) is
  where
    said_ok : Request → Type 0
    said_ok r =
        let said : Result Request Cause = Ok request in said ≡ Ok r

    by_test : (b : Bool) → (if b then Ok request else Err TooManyRequests) ≡ Ok r
        → said_ok r
    by_test true is = is
    by_test false is = absurd cc

module _ (Good : Request → Type 0) where
  -- the fact holds of each request that a form makes
  abbrev pub IsGood : RequestForm → Type 0
  IsGood form = (text : List ℕ) (r : Request) → form text ≡ Ok r → Good r

  -- a form that has only a name
  pub good_named : (make : List ℕ → Request) → ((n : List ℕ) → Good (make n)) → IsGood (named make)
  good_named make good text r is =
      let by_name = named_is make (name_field text) r is in
      rw by_name.1 (good by_name.0)

  -- a form without fields
  pub good_alone : (request : Request) → Good request → IsGood (alone request)
  good_alone request good text r is = by_test (length text == 0) is
    where
      by_test : (b : Bool) → (if b then Ok request else Err TrailingText) ≡ Ok r → Good r
      by_test true is = let same : request ≡ r = cc in rw (← same) good
      by_test false is = absurd cc

  -- a fact of each form in a table
  abbrev pub AreGood : List (List ℕ × RequestForm) → Type 0
  AreGood [] = ⊤
  AreGood (row ∷ rows) = IsGood row.1 × AreGood rows

  good_meaning : (rows : List (List ℕ × RequestForm)) → AreGood rows → (word : List ℕ)
      (form : RequestForm) → meaning rows word ≡ Some form → IsGood form
  good_meaning [] good word form is = absurd cc
  good_meaning (row ∷ rows) good word form is =
      by_test (bytes_eq word row.0) is (good_meaning rows good.1 word form)
    where
      by_test : (b : Bool) → (if b then Some row.1 else meaning rows word) ≡ Some form
          → (meaning rows word ≡ Some form → IsGood form) → IsGood form
      by_test true is others = let same : row.1 ≡ form = cc in rw (← same) good.0
      by_test false is others = others is

  good_request : AreGood forms → (line : List ℕ) (r : Request) → request_of line ≡ Ok r → Good r
  unfolding request_of
  good_request good line r is = by_test (is_utf8 line) is
    where
      by_form : (form : Option RequestForm) → meaning forms (before_space line) ≡ form
          → formed form (from_space line) ≡ Ok r → Good r
      by_form None of is = absurd cc
      by_form (Some form) of is =
          good_meaning forms good (before_space line) form of (from_space line) r is

      by_test : (b : Bool) → (if b then formed (meaning forms (before_space line)) (from_space line)
          else Err NotUtf8) ≡ Ok r → Good r
      by_test true is = by_form (meaning forms (before_space line)) refl is
      by_test false is = absurd cc

  good_rest : (number : ℕ) (said : Result Request Cause) (rest : Parsed) (requests : List Request)
      → before_rest number said rest ≡ Ok requests
      → ((r : Request) → said ≡ Ok r → Good r)
      → ((more : List Request) → rest ≡ Ok more → All Good more) → All Good requests
  good_rest number (Err cause) rest requests is one others = absurd cc
  good_rest number (Ok request) (Err bad) requests is one others = absurd cc
  good_rest number (Ok request) (Ok more) requests is one others =
      let same : requests ≡ request ∷ more = cc in
      rw same (All-cons Good request more (one request refl) (others more refl))

  good_lines : AreGood forms → (number count : ℕ) (lines : List (List ℕ)) (requests : List Request)
      → requests_of number count lines ≡ Ok requests → All Good requests
  unfolding requests_of
  good_lines good number count [] requests is =
      let none : requests ≡ [] = cc in rw none (All-nil Good)
  good_lines good number count (line ∷ lines) requests is =
      by_test (is_passed_over (content line)) is
      (good_lines good (number + 1) count lines requests)
      (good_lines good (number + 1) (count + 1) lines)
    where
      by_test : (b : Bool) → (if b then requests_of (number + 1) count lines
          else before_rest number (behind count (request_of (content line)))
          (requests_of (number + 1) (count + 1) lines)) ≡ Ok requests
          → (requests_of (number + 1) count lines ≡ Ok requests → All Good requests)
          → ((more : List Request) → requests_of (number + 1) (count + 1) lines ≡ Ok more
          → All Good more)
          → All Good requests
      by_test true is passed others = passed is
      by_test false is passed others =
          good_rest number (behind count (request_of (content line)))
          (requests_of (number + 1) (count + 1) lines) requests is
          (λ r said. good_request good (content line) r
          (good_behind count (request_of (content line)) r said)) others

  -- the fact holds of each request of a list, if it holds of each form
  pub good_list : AreGood forms → (bytes : List ℕ) (requests : List Request)
      → list_of bytes ≡ Ok requests → All Good requests
  unfolding list_of
  good_list good bytes requests is = by_test (nat_le (length bytes) max_list_bytes) is
    where
      by_test : (b : Bool) → (if b then requests_of 1 0 (lines_of bytes)
          else Err (bad_at whole_list TooLong)) ≡ Ok requests → All Good requests
      by_test true is = good_lines good 1 0 (lines_of bytes) requests is
      by_test false is = absurd cc
