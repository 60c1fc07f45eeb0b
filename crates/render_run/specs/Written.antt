-- What is written for an ending, and what is left around a call?
use Rattle.std.specs.Prelude.{◌≡◌, ◌⊎◌, ℕ, ◌≤◌, Bool, List, if◌then◌else◌}
use Rattle.std.specs.Prelude.{Result, Ok, Err}
use Rattle.tex_world.specs.Folder.{FolderState}
use Rattle.tex_world.specs.Stream.{Appends}
use Rattle.render_run.specs.declared.prepare.RunError.{RunError}
use Rattle.render_run.specs.declared.prepare.RunError.TheVariants as ending
use Rattle.render_run.specs.Status as status
use Rattle.request_lang.specs.declared.request.Request.{Request}
use Rattle.render_run.specs.declared.answering.Unfinished.{Unfinished}
use Rattle.render_run.specs.declared.answering.Unfinished.TheVariants.{NotWritten}
use Rattle.render_run.specs.declared.answering.Unfinished.TheVariants as unfinished
use Rattle.render_run.specs.Around.{Setup, Sight, Progress}
use Rattle.answer_page.specs.Page.{SinkState, PutsPart}
use Rattle.render_run.specs.Run.{Finishes, PartWritten, RoundsWritten, GivesTapsBack}
use Rattle.render_run.specs.Answering.{SoFar}
use Rattle.render_run.specs.RunError.{status_of, ending_text}

-- ---- an ending

-- the text was written, and the status is the expected one
pub record TextWritten (text : List ℕ) (wanted : ℕ) (old new : SinkState) (ends : ℕ)
    : Type 0 where
  pub as_wanted : ends ≡ wanted
  pub all : Appends text old.holds new.holds

-- the sink failed after a first part of the text
pub record SinkFails (text : List ℕ) (old new : SinkState) (ends : ℕ) : Type 0 where
  pub as_failed : ends ≡ status.not_written
  pub put : PutsPart text old new

-- out of memory, and nothing was written
pub record LacksMemory (old new : SinkState) (ends : ℕ) : Type 0 where
  pub as_lacking : ends ≡ status.no_memory
  pub same : new.holds ≡ old.holds

-- The text was written and the status is the expected one, or the sink failed.
abbrev pub StatusWritten : List ℕ → ℕ → SinkState → SinkState → ℕ → Type 0
StatusWritten text wanted old new ends =
    TextWritten text wanted old new ends ⊎ SinkFails text old new ends

-- The text of an ending was written, with its status. Out of memory has no text, and nothing is
-- written; nor is it if memory runs out for the text about an invalid list.
abbrev pub EndedAs : RunError → SinkState → SinkState → ℕ → Type 0
EndedAs ending.NoMemory old new ends = LacksMemory old new ends
EndedAs (ending.NotAList bad) old new ends =
    StatusWritten (ending_text (ending.NotAList bad)) status.bad_list old new ends
    ⊎ LacksMemory old new ends
EndedAs e old new ends = StatusWritten (ending_text e) (status_of e) old new ends

-- ---- the lines of a list

-- What was written for a list, if it was answered to its end and if it was not.
abbrev pub Leaves : Setup → List Request → Progress → Progress → Result Bool Unfinished → Type 0
Leaves setup requests old new (Ok refused) = Finishes setup requests old new refused
Leaves setup requests old new (Err NotWritten) = PartWritten setup requests old new
Leaves setup requests old new (Err unfinished.NoMemory) = RoundsWritten setup requests old new

-- What was written for a list that was not answered to its end, while the lines of whole rounds are
-- still on the page.
abbrev pub EndsEarly : Setup → List Request → List Sight → Progress → Progress → List ℕ → Unfinished
    → Type 0
EndsEarly setup requests crew old new page NotWritten = PartWritten setup requests old new
EndsEarly setup requests crew old new page unfinished.NoMemory =
    (done : ℕ) × (refused : ℕ) × SoFar setup requests done crew old new page refused

-- the status of a list, answered to its end or not
abbrev pub list_status : Result Bool Unfinished → ℕ
list_status (Ok refused) = if refused then status.with_refusals else status.all_answered
list_status (Err NotWritten) = status.not_written
list_status (Err unfinished.NoMemory) = status.no_memory

-- ---- after the answers

-- the folder is still entered, and the mark for too many files is unchanged
pub record KeepsEntered (old new : FolderState) : Type 0 where
  pub entered : new.entered ≡ old.entered
  pub mark : new.over ≡ old.over
  pub faults : old.faults ≤ new.faults
  pub moves : old.moves ≤ new.moves

-- the counts of taps are unchanged, and those of I/O errors and moves have not fallen
pub record KeepsTaps (old new : FolderState) : Type 0 where
  pub made : new.made ≡ old.made
  pub returned : new.returned ≡ old.returned
  pub faults : old.faults ≤ new.faults
  pub moves : new.moves ≡ old.moves

-- The folder is still entered, and each tap that it made was given back.
pub record LeavesTaps (old new : FolderState) : Type 0 where
  pub folder : KeepsEntered old new
  pub back : GivesTapsBack old new
