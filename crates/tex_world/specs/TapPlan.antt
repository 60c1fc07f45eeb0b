-- What is left of a tap's share of a plan, and what does it say about a call?
use Rattle.std.specs.Prelude.{ℕ, ◌+◌, ◌-◌, ◌/◌, ◌%◌, max, Bool, ◌&&◌, ◌||◌, not, nat_lt, nat_le, ◌==◌}
use Rattle.std.specs.Prelude.{List, [], ◌∷◌, ◌++◌, if◌then◌else◌, Result, Ok, Err}
use Rattle.std.specs.List.{filter, fold, list_any}
use Rattle.tex_world.specs.World.{Files, is_held, first_generation}
use Rattle.tex_world.specs.declared.fault.ReadError.{ReadError}
use Rattle.tex_world.specs.declared.fault.ReadError.TheVariants.{Failed, Gone}
use Rattle.tex_world.specs.declared.plan.FailCall.{FailCall}
use Rattle.tex_world.specs.declared.plan.FailByte.{FailByte}
use Rattle.tex_world.specs.declared.plan.Newest.{Newest}
use Rattle.tex_world.specs.declared.plan.Rise.{Rise}
use Rattle.tex_world.specs.declared.reading.ReadRequest.{ReadRequest}

-- What is left of a tap's share of a plan.
pub record TapPlan : Type 0 where
  -- the calls that fail
  pub fail_calls : List FailCall
  -- the bytes at which a read will fail
  pub fail_bytes : List FailByte
  -- the newest generations seen at first
  pub newest : List Newest
  -- the newer generations that will still appear
  pub rises : List Rise
  -- the newer generations that have appeared
  pub risen : List Rise

-- ---- which entries concern a call

-- the call with this number, counted from 1, fails
abbrev pub is_failing_call : TapPlan → ℕ → Bool
is_failing_call plan call = list_any (λ e. e.call == call) plan.fail_calls

-- one of the rows has the byte that lies this many bytes after the first one
abbrev pub is_in_rows : ReadRequest → ℕ → Bool
is_in_rows read behind =
    let stride = max read.stride 1 in
    nat_lt (behind / stride) read.count && nat_lt (behind % stride) read.row

-- the read includes the byte at this place of a file
abbrev pub covers : ReadRequest → ℕ → ℕ → Bool
covers read file at = (file == read.file) && (nat_le read.at at && is_in_rows read (at - read.at))

-- the read fails at this entry's byte
abbrev pub is_failing_byte : ReadRequest → FailByte → Bool
is_failing_byte read e = covers read e.file e.at

-- the read, which is the call with this number, fails by its number or at a byte
abbrev pub is_failing_read : TapPlan → ℕ → ReadRequest → Bool
is_failing_read plan call read =
    is_failing_call plan call || list_any (is_failing_byte read) plan.fail_bytes

-- This entry's generation exists and is newer than the read's, and its byte is read.
abbrev pub is_rising : Files → ReadRequest → Rise → Bool
is_rising files read e =
    is_held files e.file e.to && (nat_lt read.generation e.to && covers read e.file e.at)

-- ---- what a call answers

-- the answer of a read at which these generations appear: one is met, several make it fail
abbrev pub met : List Rise → Result (Unit {0}) ReadError
met [] = Ok tt
met (e ∷ []) = Err (Gone e.to)
met (e ∷ f ∷ es) = Err Failed

-- The answer of a read after `calls` calls. It fails if an entry says so, or if several newer
-- generations appear; a single one is met.
abbrev pub planned_read : Files → TapPlan → ℕ → ReadRequest → Result (Unit {0}) ReadError
planned_read files plan calls read =
    if is_failing_read plan (calls + 1) read then Err Failed
    else met (filter (is_rising files read) plan.rises)

-- What is left after a read: the entries that name it are used up, and its generations have
-- appeared.
abbrev pub after_read : Files → ReadRequest → TapPlan → TapPlan
after_read files read plan = record {
  fail_calls = plan.fail_calls;
  fail_bytes = filter (λ e. not (is_failing_byte read e)) plan.fail_bytes;
  newest = plan.newest;
  rises = filter (λ e. not (is_rising files read e)) plan.rises;
  risen = plan.risen ++ filter (is_rising files read) plan.rises;
}

-- the generation of the first entry with this file and an existing generation; otherwise generation
-- 1
abbrev pub newest_at_first : Files → List Newest → ℕ → ℕ
newest_at_first files [] file = first_generation
newest_at_first files (e ∷ entries) file =
    if (e.file == file) && is_held files file e.generation
    then e.generation else newest_at_first files entries file

-- a generation of a file after a newer one has appeared
abbrev pub after_rise : Files → ℕ → ℕ → Rise → ℕ
after_rise files file generation e =
    if (e.file == file) && is_held files file e.to then max generation e.to else generation

-- the newest generation of a file that the tap sees: the first one, raised by all that have
-- appeared
abbrev pub newest_of : Files → TapPlan → ℕ → ℕ
newest_of files plan file =
    fold (after_rise files file) (newest_at_first files plan.newest file) plan.risen
