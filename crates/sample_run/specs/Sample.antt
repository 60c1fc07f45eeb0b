-- What has the sample call done when it ends with a status?
-- (docs/REQUESTS.md, "The sample program")
use Rattle.std.specs.Prelude.{◌≡◌, ◌≢◌, ◌⊎◌, ℕ, ◌<◌, ◌≤◌, codes, List, [], ◌∷◌, ◌++◌}
use Rattle.std.specs.Prelude.{length, Option, Some, None}
use Rattle.std.specs.Option.{IsSomeAnd}
use Rattle.tex_world.specs.World.{Files}
use Rattle.tex_world.specs.Counts.{Rises}
use Rattle.tex_world.specs.Stream.{Appends, AppendsPart}
use Rattle.tex_world.specs.Table.{table_files}
use Rattle.tex_world.specs.Names.{name_at}
use Rattle.sample_folder.specs.Sample.{sample_count, sample_names, sample_len_of, sample_byte}
use Rattle.sample_folder.specs.SampleFolder.{sample_folder}
use Rattle.tex_world.specs.Folder.{IsNewFolder}
use Rattle.sample_folder.specs.declared.sample_folder.SampleFolder.{SampleFolder}
use Rattle.command_line.specs.Invocation.{Asked, invocation_of}
use Rattle.request_lang.specs.Grammar.{line_feed, max_list_bytes}
use Rattle.render_run.specs.Status as status
use Rattle.render_run.specs.Around.{Around, around_of}
use Rattle.answer_page.specs.Page.{SinkState}
use Rattle.render_run.specs.Run.{Runs}
use Rattle.render_run.specs.Complete.{Completes}
use Rattle.sample_run.specs.declared.size.Size.{Size}
use Rattle.sample_run.specs.Size.{size_in, run_words}
use Rattle.sample_run.specs.MadeList.{made_list}
use Rattle.sample_run.specs.Summary.{summary}

-- ---- the run

-- the sample files
abbrev pub sample_files : Files
sample_files =
    table_files sample_count (name_at sample_names) sample_len_of (λ n g at. sample_byte n at)

-- what the arguments of the run ask for
abbrev pub run_asked : ℕ → Option Asked
run_asked workers = invocation_of (run_words workers)

-- the surroundings of the run: a sample folder, what the feed has left, and the sink
abbrev pub sample_around : SampleFolder → List ℕ → SinkState → Around
sample_around folder left sink =
    around_of (sample_folder folder) (record { faults = 0; left = Some left }) sink

-- a sink that has these bytes and has not failed
abbrev pub sink_with : List ℕ → SinkState
sink_with bytes = record { faults = 0; holds = Some bytes }

-- These bytes are what a run writes that ends with this status. It runs over a new folder of sample
-- files, a feed of the made list that never fails, and an empty sink, with the workers that were
-- asked for. It answers the whole list, and no line reports a failure.
pub record RunsSample (s : Size) (bytes : List ℕ) (ends : ℕ) : Type 0 where
  pub old : SampleFolder
  pub fresh : IsNewFolder (sample_folder old)
  pub new : SampleFolder
  pub left : List ℕ
  pub runs : Runs sample_files (run_asked s.workers)
      (sample_around old (made_list s.requests) (sink_with []))
      (sample_around new left (sink_with bytes)) ends
  pub complete : Completes sample_files (run_asked s.workers)
      (sample_around old (made_list s.requests) (sink_with []))
      (sample_around new left (sink_with bytes)) ends

-- ---- the line

-- the made list has more bytes than a list may have
abbrev pub HasLongList : Size → Type 0
HasLongList s = max_list_bytes < length (made_list s.requests)

-- The arguments ask for a list that is not too long, a run over it writes some bytes and ends with
-- this status, and the text is the line about these bytes.
pub record IsLine (words : List (List ℕ)) (ends : ℕ) (text : List ℕ) : Type 0 where
  pub asked : Size
  pub asked_for : size_in words ≡ Some asked
  pub short : length (made_list asked.requests) ≤ max_list_bytes
  pub bytes : List ℕ
  pub run : RunsSample asked bytes ends
  pub of_bytes : text ≡ summary bytes

-- the text for arguments that are not two valid numbers
abbrev pub bad_words_text : List ℕ
bad_words_text = codes "bad words" ++ line_feed ∷ []

-- The text is the expected one: a line, or that for wrong arguments.
abbrev pub IsWanted : List (List ℕ) → List ℕ → Type 0
IsWanted words text =
    ((size_in words ≡ None) × (text ≡ bad_words_text))
    ⊎ ((ends : ℕ) × (ends ≤ status.with_refusals) × IsLine words ends text)

-- ---- how the call ends

-- the line was written
pub record WritesLine (words : List (List ℕ)) (old new : SinkState) (ends : ℕ) : Type 0 where
  pub text : List ℕ
  pub line : IsLine words ends text
  pub written : Appends text old.holds new.holds

-- the output failed after a first part of the text
pub record CutsShort (text : List ℕ) (old new : SinkState) : Type 0 where
  pub failed : Rises old.faults new.faults
  pub part : AppendsPart text old.holds new.holds

-- the output failed after a first part of what was to be written
pub record BreaksOff (words : List (List ℕ)) (old new : SinkState) : Type 0 where
  pub text : List ℕ
  pub wanted : IsWanted words text
  pub cut : CutsShort text old new

-- A text was written and the status is the expected one, or the output failed.
abbrev pub Puts : List ℕ → ℕ → SinkState → SinkState → ℕ → Type 0
Puts text wanted old new ends =
    ((ends ≡ wanted) × Appends text old.holds new.holds)
    ⊎ ((ends ≡ status.not_written) × CutsShort text old new)

-- What the sample call has done, by the status that it ends with.
pub record Samples (words : List (List ℕ)) (old new : SinkState) (ends : ℕ) : Type 0 where
  -- the line about the bytes of a run with this status was written
  pub answered : ends ≤ status.with_refusals → WritesLine words old new ends
  -- the arguments are not two valid numbers, and the text says so
  pub refused : ends ≡ status.bad_words
      → (size_in words ≡ None) × Appends bad_words_text old.holds new.holds
  -- the made list is too long, and nothing was written
  pub long : ends ≡ status.bad_list
      → IsSomeAnd (size_in words) HasLongList × (new.holds ≡ old.holds)
  -- the output failed after a first part of what was to be written
  pub cut : ends ≡ status.not_written → BreaksOff words old new
  -- out of memory, and nothing was written
  pub short : ends ≡ status.no_memory → new.holds ≡ old.holds
  -- there is no other status, because the files and the list never fail
  pub statuses : (ends ≤ status.no_memory) × (ends ≢ status.input_fault)
  -- if the arguments are not two valid numbers, there are only these two statuses
  pub words_are : size_in words ≡ None → (ends ≡ status.bad_words) ⊎ (ends ≡ status.not_written)
  -- if the list is too long, this status follows, unless memory runs out
  pub list_is : IsSomeAnd (size_in words) HasLongList
      → (ends ≡ status.bad_list) ⊎ (ends ≡ status.no_memory)
