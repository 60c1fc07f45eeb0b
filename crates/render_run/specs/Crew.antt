-- What do the workers of a round leave, each with its own share?
use Rattle.std.specs.Prelude.{◌≡◌, ℕ, ◌+◌, ◌<◌, ◌≤◌, min, List, [], length, map, slice_index_or}
use Rattle.tex_world.specs.Counts.{last_count}
use Rattle.tex_world.specs.World.{Files}
use Rattle.tex_world.specs.Tap.{TapState, IsNew}
use Rattle.tex_world.specs.Folder.{FolderState, KeepsFiles}
use Rattle.tile_source.specs.Pass.{PassState}
use Rattle.image_cache.specs.Pass.{IsFresh}
use Rattle.image_cache.specs.Invalid.{RisesBy}
use Rattle.request_lang.specs.declared.answer.Answer.{Answer}
use Rattle.render_run.specs.declared.question.Task.{Task}
use Rattle.request_lang.specs.declared.request.Request.{Request}
use Rattle.render_run.specs.Question.{task_of}
use Rattle.render_run.specs.Around.{SourceState, Setup, Sight, Terms, sight_at}
use Rattle.render_run.specs.Around.{tally_of, no_tally}
use Rattle.render_run.specs.Answering.{AnswersEach, AnswersInTurn, AreInTurn, SeesNoLess}
use Rattle.render_run.specs.Answering.{in_turn, share_of}

-- the greatest number of workers
abbrev pub max_workers : ℕ
max_workers = 16

-- the answers of a worker in a round
abbrev pub answers_at : List (List Answer) → ℕ → List Answer
answers_at lists w = slice_index_or lists w []

-- Each worker answered its share of the requests of a round.
pub record AnswersShares (files : Files) (terms : Terms) (tasks : List Task) (lists : List (List Answer))
    (old new : List Sight) : Type 0 where
  pub count : length new ≡ length old
  pub each : (w : ℕ) → w < length old → AnswersEach files terms (share_of (length old) w tasks)
      (answers_at lists w) (sight_at old w) (sight_at new w)

-- A pass has seen at least as much of each file as before. Its permits, holds and counts are the
-- same.
pub record SeesOn (old new : PassState) : Type 0 where
  pub seen : SeesNoLess old.view.seen new.view.seen
  pub permits : new.pinned.seat.permits ≡ old.pinned.seat.permits
  pub holds : new.pinned.holds ≡ old.pinned.holds
  pub tally : tally_of new ≡ tally_of old

-- A pass has seen the same as before. Its permits, holds and counts are the same.
pub record GivesOn (old new : PassState) : Type 0 where
  pub seen : new.view.seen ≡ old.view.seen
  pub permits : new.pinned.seat.permits ≡ old.pinned.seat.permits
  pub holds : new.pinned.holds ≡ old.pinned.holds
  pub tally : tally_of new ≡ tally_of old

-- A worker has seen at least as much of each file as before. Its permits, holds, counts and tap are
-- the same.
pub record SightsOn (old new : Sight) : Type 0 where
  pub seen : SeesNoLess old.seen new.seen
  pub permits : new.permits ≡ old.permits
  pub holds : new.holds ≡ old.holds
  pub tally : new.tally ≡ old.tally
  pub source : new.source ≡ old.source

-- Each worker has seen at least as much as before, and is otherwise the same.
pub record SeeNoLess (old new : List Sight) : Type 0 where
  pub count : length new ≡ length old
  pub each : (w : ℕ) → w < length old → SightsOn (sight_at old w) (sight_at new w)

-- The workers have exchanged what they have seen, and are otherwise the same.
pub record AreCarried (old new : List Sight) : Type 0 where
  pub kept : SeeNoLess old new
  pub carried : (v w : ℕ) → v < length old → w < length old
      → SeesNoLess (sight_at old v).seen (sight_at new w).seen

-- A round of these requests was answered: the workers exchanged what they had seen, and then
-- answered in turn. Each has its own list of answers.
pub record AnswersRound (setup : Setup) (requests : List Request) (lists : List (List Answer))
    (old new : List Sight) : Type 0 where
  pub before : List Sight
  pub carried : AreCarried old before
  pub there : AreInTurn setup.workers (length requests) lists
  pub turns : AnswersInTurn setup.files setup.terms setup.workers 0
      (map (task_of setup.number_of) requests)
      (in_turn setup.workers 0 (length requests) lists) before new

-- ---- the taps

-- A worker is new: its pass is empty, and its tap has done nothing.
pub record IsNewPost (pass : PassState) (tap : TapState) : Type 0 where
  pub fresh : IsFresh pass
  pub unused : IsNew tap

-- n taps were made by a folder, and nothing else changed of its counts of taps.
pub record MakesMore (n : ℕ) (old new : FolderState) : Type 0 where
  pub made : RisesBy n old.made new.made
  pub returned : new.returned ≡ old.returned
  pub faults : old.faults ≤ new.faults
  pub moves : new.moves ≡ old.moves
  pub files : KeepsFiles old new

-- n taps were given back to a folder, which now counts their I/O errors and moves too.
pub record TakesBack (n : ℕ) (source : SourceState) (old new : FolderState) : Type 0 where
  pub made : new.made ≡ old.made
  pub returned : RisesBy n old.returned new.returned
  pub faults_later : old.faults ≤ new.faults
  pub faults : min (old.faults + source.faults) last_count ≤ new.faults
  pub moves_later : old.moves ≤ new.moves
  pub moves : min (old.moves + source.moves) last_count ≤ new.moves
  pub files : KeepsFiles old new

-- Of `all` taps with these counts, `left` remain with those counts; the others were given back.
pub record GivesMore (all : ℕ) (whole : SourceState) (left : ℕ) (rest : SourceState)
    (old new : FolderState) : Type 0 where
  pub few : left ≤ all
  pub made : new.made ≡ old.made
  pub later : old.returned ≤ new.returned
  pub returned : new.returned < last_count → new.returned + left ≡ old.returned + all
  pub faults_later : old.faults ≤ new.faults
  pub faults : min (old.faults + whole.faults) last_count ≤ new.faults + rest.faults
  pub moves_later : old.moves ≤ new.moves
  pub moves : min (old.moves + whole.moves) last_count ≤ new.moves + rest.moves
  pub files : KeepsFiles old new

-- A worker has no holds and counts of 0.
pub record IsIdle (sight : Sight) : Type 0 where
  pub holds : sight.holds ≡ 0
  pub tally : sight.tally ≡ no_tally

-- Each worker has no holds and counts of 0.
abbrev pub AreIdle : List Sight → Type 0
AreIdle crew = (w : ℕ) → IsIdle (sight_at crew w)
