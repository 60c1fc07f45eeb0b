-- What has the top call done when it ends with a status? (docs/REQUESTS.md, "Statuses")
use Rattle.std.specs.Prelude.{◌≡◌, ◌⊎◌, ℕ, ◌+◌, ◌<◌, ◌≤◌, Bool, IsTrue, List, [], map, take, length}
use Rattle.std.specs.Prelude.{Option, if◌then◌else◌, nat_lt, slice_index_or, ◌++◌}
use Rattle.std.specs.List.{flat_map, count_by, AllPairs}
use Rattle.tex_world.specs.Counts.{last_count, Rises, RisesByAtLeast}
use Rattle.tex_world.specs.World.{Files}
use Rattle.tex_world.specs.Folder.{FolderState}
use Rattle.tex_world.specs.Stream.{Appends, AppendsPart}
use Rattle.command_line.specs.declared.options.RunOptions.{RunOptions}
use Rattle.command_line.specs.Invocation.{Asked}
use Rattle.request_lang.specs.declared.request.Request.{Request}
use Rattle.render_run.specs.declared.prepare.RunError.{RunError}
use Rattle.render_run.specs.Status as status
use Rattle.render_run.specs.Around.{SourceState, Around, Inputs, Progress, Setup, inputs_of}
use Rattle.render_run.specs.Around.{setup_of, progress_of, source_of_folder, terms_for}
use Rattle.answer_page.specs.Page.{PutsPart}
use Rattle.request_lang.specs.Line.{line_of}
use Rattle.request_lang.specs.Basis.{is_refusal, basis_of, is_fault, is_move}
use Rattle.render_run.specs.Dealing.{AreWholeRounds, places_of}
use Rattle.render_run.specs.Reply.{Line, MeetsAll}
use Rattle.render_run.specs.Fresh.{IsFresher}
use Rattle.render_run.specs.Held.{AreCounted}
use Rattle.render_run.specs.Counted.{AreCountsOf, TellTheirPins, no_counts}
use Rattle.request_lang.specs.declared.closing.Counts.{Counts}
use Rattle.request_lang.specs.Closing.{closing_lines}
use Rattle.image_cache.specs.Invalid.{RisesBy}
use Rattle.render_run.specs.RunError.{HasOptions, path_in, IsPrepared, IsEnded, status_of}
use Rattle.render_run.specs.RunError.{ending_text}

-- ---- the lines

-- the number of lines that are refusals
abbrev pub refusals : List Line → ℕ
refusals lines = count_by (λ line. is_refusal line.answer) lines

-- whether some line is a refusal
abbrev pub some_refused : List Line → Bool
some_refused lines = nat_lt 0 (refusals lines)

-- the number of lines that report an I/O error
abbrev pub read_faults : List Line → ℕ
read_faults lines = count_by (λ line. is_fault (basis_of line.answer)) lines

-- the number of lines that report a newer generation
abbrev pub agains : List Line → ℕ
agains lines = count_by (λ line. is_move (basis_of line.answer)) lines

-- the text of the lines, each with its line feed
abbrev pub lines_text : List Line → List ℕ
lines_text lines = flat_map (λ line. line_of line.answer) lines

-- The first `count` requests were answered with one line each. The line is right for its request
-- and has its place in the dealing of the list, its worker held what its earlier lines leave, and
-- no line is older than earlier lines about its file. There are no more `read fault` lines than I/O
-- errors, and no more `again` lines than moves.
pub record Answers (setup : Setup) (requests : List Request) (count : ℕ) (old new : SourceState)
    : Type 0 where
  pub lines : List Line
  pub met : MeetsAll setup (take count requests) lines
  pub places : map (λ line. line.place) lines ≡ take count (places_of setup.workers requests)
  pub counted : AreCounted [] lines
  pub fresh : AllPairs IsFresher lines
  pub faults : RisesByAtLeast (read_faults lines) old.faults new.faults
  pub moves : RisesByAtLeast (agains lines) old.moves new.moves

-- The text closes a run of this many workers with these lines: it has the counts of each worker,
-- the number of lines, and the number of refusals. In a modelled world, a worker without uncached
-- needs counts the pins of its tiles in its lines about shards.
pub record Closes (files : Files) (workers : ℕ) (lines : List Line) (text : List ℕ) : Type 0 where
  pub counts : List Counts
  pub each : length counts ≡ workers
  pub counted : (w : ℕ) → w < workers
      → AreCountsOf files.tells w lines (slice_index_or counts w no_counts)
  pub pins : (w : ℕ) → w < workers → IsTrue files.tells
      → (slice_index_or counts w no_counts).apart ≡ 0 → TellTheirPins workers w [] lines
  pub tells : text ≡ closing_lines counts (length lines) (refusals lines)

-- ---- what was written for a list

-- The whole list was answered and written, with the closing lines; `refused` says whether some line
-- is a refusal.
pub record Finishes (setup : Setup) (requests : List Request) (old new : Progress) (refused : Bool)
    : Type 0 where
  pub answers : Answers setup requests (length requests) old.source new.source
  pub closing : List ℕ
  pub closes : Closes setup.files setup.workers answers.lines closing
  pub written : Appends (lines_text answers.lines ++ closing) old.sink.holds new.sink.holds
  pub refusal : refused ≡ some_refused answers.lines

-- The sink failed after a first part of the lines for some first requests, or of the closing lines
-- after all others.
pub record PartWritten (setup : Setup) (requests : List Request) (old new : Progress)
    : Type 0 where
  pub count : ℕ
  pub answers : Answers setup requests count old.source new.source
  pub closing : List ℕ
  pub closes : (closing ≡ []) ⊎ ((count ≡ length requests)
      × Closes setup.files setup.workers answers.lines closing)
  pub put : PutsPart (lines_text answers.lines ++ closing) old.sink new.sink

-- The lines of some first rounds were written completely.
pub record RoundsWritten (setup : Setup) (requests : List Request) (old new : Progress)
    : Type 0 where
  pub count : ℕ
  pub answers : Answers setup requests count old.source new.source
  pub whole : AreWholeRounds (places_of setup.workers requests) count
  pub written : Appends (lines_text answers.lines) old.sink.holds new.sink.holds

-- ---- the top call

-- the folder and the feed of the call
abbrev pub inputs_in : Around → Inputs
inputs_in around = inputs_of around.folder around.feed

-- the state of answering: the source made of the folder, and the sink
abbrev pub progress_in : Around → Progress
progress_in around = progress_of (source_of_folder around.folder) around.sink

-- what a list is answered from: the files of the folder, under these options
abbrev pub setup_in : Files → Around → RunOptions → Setup
setup_in files around options =
    setup_of files around.folder (terms_for options) options.workers

-- as many taps were made as there are workers
abbrev pub MakesTaps : ℕ → FolderState → FolderState → Type 0
MakesTaps workers old new = RisesBy workers old.made new.made

-- The folder at the path was entered, the feed was read to its end, and its bytes are a list of
-- these requests, to be answered under the requested options.
pub record IsListed (asked : Option Asked) (old new : Around) : Type 0 where
  pub options : RunOptions
  pub asked_for : HasOptions asked options
  pub requests : List Request
  pub prepared : IsPrepared (path_in asked) (inputs_in old) (inputs_in new) requests

-- The whole list was answered and written, by each worker through its own tap. The status says
-- whether some line is a refusal.
pub record IsAnswered (files : Files) (asked : Option Asked) (old new : Around) (ends : ℕ)
    : Type 0 where
  pub list : IsListed asked old new
  pub refused : Bool
  pub finishes : Finishes (setup_in files new list.options) list.requests (progress_in old)
      (progress_in new) refused
  pub of_status : ends ≡ (if refused then status.with_refusals else status.all_answered)
  pub made : MakesTaps list.options.workers old.folder new.folder

-- A first part of the lines for a list was written.
pub record ListPart (files : Files) (asked : Option Asked) (old new : Around) : Type 0 where
  pub list : IsListed asked old new
  pub part : PartWritten (setup_in files new list.options) list.requests (progress_in old)
      (progress_in new)

-- The lines of some first rounds of a list were written completely.
pub record ListRounds (files : Files) (asked : Option Asked) (old new : Around) : Type 0 where
  pub list : IsListed asked old new
  pub rounds : RoundsWritten (setup_in files new list.options) list.requests (progress_in old)
      (progress_in new)

-- No list was answered: the ending has its cause, and its text was written.
pub record Stops (files : Files) (path : Option (List ℕ)) (old new : Around) (ends : ℕ)
    : Type 0 where
  pub ending : RunError
  pub of_status : status_of ending ≡ ends
  pub ended : IsEnded files path (inputs_in old) (inputs_in new) ending
  pub written : Appends (ending_text ending) old.sink.holds new.sink.holds

-- A first part of the text of an ending was written, and the ending has its cause.
pub record StopsPart (files : Files) (path : Option (List ℕ)) (old new : Around) : Type 0 where
  pub ending : RunError
  pub ended : IsEnded files path (inputs_in old) (inputs_in new) ending
  pub part : AppendsPart (ending_text ending) old.sink.holds new.sink.holds

-- The sink failed after a first part of what was to be written: the text of an ending, or the lines
-- for a list.
pub record BreaksOff (files : Files) (asked : Option Asked) (old new : Around) : Type 0 where
  pub failed : Rises old.sink.faults new.sink.faults
  pub part : StopsPart files (path_in asked) old new ⊎ ListPart files asked old new

-- Nothing was written, and the mark for too many files was not set.
pub record WritesNothing (old new : Around) : Type 0 where
  pub sink : new.sink.holds ≡ old.sink.holds
  pub mark : IsTrue new.folder.over → IsTrue old.folder.over

-- As many taps were given back as were made.
pub record GivesTapsBack (old new : FolderState) : Type 0 where
  pub made : old.made ≤ new.made
  pub returned : old.returned ≤ new.returned
  pub alike : new.made < last_count → new.returned < last_count
      → new.made + old.returned ≡ old.made + new.returned

-- What the top call has done, by the status that it ends with.
pub record Runs (files : Files) (asked : Option Asked) (old new : Around) (ends : ℕ)
    : Type 0 where
  -- the whole list was answered
  pub answered : ends ≤ status.with_refusals → IsAnswered files asked old new ends
  -- no list was answered, and the cause was written
  pub stopped : status.bad_words ≤ ends → ends ≤ status.input_fault
      → Stops files (path_in asked) old new ends
  -- the sink failed after a first part of what was to be written
  pub cut : ends ≡ status.not_written → BreaksOff files asked old new
  -- memory ran out: nothing was written, or whole rounds were
  pub short : ends ≡ status.no_memory → WritesNothing old new ⊎ ListRounds files asked old new
  -- there is no other status
  pub statuses : ends ≤ status.no_memory
  -- in every case, each tap that was made was given back
  pub taps : GivesTapsBack old.folder new.folder
