-- What does a worker leave of what it has seen, and how far has answering a list come?
use Rattle.std.specs.Prelude.{◌≡◌, ◌⊎◌, ℕ, zero, suc, ◌+◌, ◌-◌, ◌/◌, ◌%◌, ◌<◌, ◌≤◌, List, [], ◌∷◌, ◌++◌}
use Rattle.std.specs.Prelude.{IsTrue, length, slice_index, slice_index_or, slice_set}
use Rattle.std.specs.Prelude.{map, take, drop, Option, Some, None, IsSome, ⊤}
use Rattle.std.specs.Option.{ForSome}
use Rattle.std.specs.List.{All, AllPairs, flat_map}
use Rattle.tex_world.specs.Counts.{Rises, RisesByAtLeast}
use Rattle.tex_world.specs.World.{Files, IsFile}
use Rattle.tex_world.specs.Folder.{FolderState}
use Rattle.texel_values.specs.Region.{max_texels}
use Rattle.udim.specs.Udim.{mark_at}
use Rattle.request_lang.specs.declared.request.Request.{Request}
use Rattle.request_lang.specs.declared.answer.Answer.{Answer}
use Rattle.request_lang.specs.declared.answer.Answer.TheVariants.{Synced}
use Rattle.request_lang.specs.Line.{line_of}
use Rattle.request_lang.specs.Grammar.{max_requests}
use Rattle.tile_source.specs.Pass.{CacheState}
use Rattle.request_lang.specs.Basis.{Basis, OnNewer, OnFault, basis_of, latest}
use Rattle.render_run.specs.declared.question.Task.{Task}
use Rattle.render_run.specs.Around.{SourceState, Sight, Terms, Progress, Setup, sight_at}
use Rattle.render_run.specs.Around.{source_of_crew}
use Rattle.render_run.specs.Question.{AsksWell, AreGivenOf, MayAsk, file_in}
use Rattle.render_run.specs.Dealing.{fresh_round, places_from, places_of}
use Rattle.render_run.specs.Reply.{Line, MeetsTask, MeetsAll}
use Rattle.render_run.specs.Fresh.{IsFresher, KeepsFresh}
use Rattle.render_run.specs.Held.{one_if, is_hold, is_drop, holds_by, drops_by, AreCounted}
use Rattle.render_run.specs.Counted.{TellTheirPins}
use Rattle.render_run.specs.Pins.{TellsPins}
use Rattle.render_run.specs.Tallied.{TalliesAnswer, IsTallied}
use Rattle.render_run.specs.Run.{read_faults, agains, refusals, lines_text}
use Rattle.answer_page.specs.Page.{Passes, outgoing_of}

-- ---- one request

-- the counts of I/O errors and moves have not fallen
pub record GoesOn (old new : SourceState) : Type 0 where
  pub faults : old.faults ≤ new.faults
  pub moves : old.moves ≤ new.moves

-- What the basis of an answer says about the source: its I/O errors rose, or its moves did.
abbrev pub HasCause : SourceState → SourceState → Basis → Type 0
HasCause old new OnFault = Rises old.faults new.faults
HasCause old new (OnNewer from to) = Rises old.moves new.moves
HasCause old new _ = ⊤

-- for no file has less been seen than before
abbrev pub SeesNoLess : List ℕ → List ℕ → Type 0
SeesNoLess old new = (n : ℕ) → slice_index old n ≤ slice_index new n

-- What an answer does to a worker's state. An answer about a file is not older than what the worker
-- had seen of it, and the worker has now seen at least the answer's generation. Nothing that it has
-- seen has fallen, its permits are the same, its holds change as the answer says, and the answer
-- has its cause.
pub record AfterAnswer (file : Option ℕ) (old new : Sight) (line : Answer) : Type 0 where
  pub later : SeesNoLess old.seen new.seen
  pub permits : new.permits ≡ old.permits
  pub fresh : ForSome file (λ n.
      KeepsFresh (slice_index old.seen n) (slice_index new.seen n) line)
  pub holds : new.holds + one_if (is_drop line) ≡ old.holds + one_if (is_hold line)
  pub cause : HasCause old.source new.source (basis_of line)
  pub counts : GoesOn old.source new.source

-- The answer is right for what a worker was given. If it lists the shards, it counts the pins of
-- the worker's holds and microcache, and no others if the worker has all permits.
pub record AnswersTask (files : Files) (terms : Terms) (task : Task) (old new : Sight)
    (line : Answer) : Type 0 where
  pub meets : MeetsTask files terms old.holds task line
  pub pins : TellsPins (old.holds + length old.tally.recent) (old.permits ≡ terms.passes) line
  pub after : AfterAnswer (file_in task) old new line
  pub tallies : TalliesAnswer files terms.cut task old.tally new.tally line

-- ---- the requests of a round

-- what a worker is given may be asked, and its file is in range and belongs to the world
pub record MayBeGiven (files : Files) (count : ℕ) (task : Task) : Type 0 where
  pub number : ForSome (file_in task) (λ n. n < count)
  pub file : ForSome (file_in task) (IsFile files)
  pub asked : AsksWell task

-- The name has no UDIM mark, and belongs to the file of the folder with this number.
pub record IsKnown (files : Files) (folder : FolderState) (name : List ℕ) (number : ℕ) : Type 0 where
  pub unmarked : mark_at name ≡ None
  pub numbered : folder.number_of name ≡ Some number
  pub low : number < folder.size
  pub file : IsFile files number

-- These tasks are made from requests to a folder, and each may be asked.
pub record AreDealt (files : Files) (folder : FolderState) (requests : List Request)
    (tasks : List Task) : Type 0 where
  pub may : All (MayBeGiven files folder.size) tasks
  pub are : AreGivenOf folder.number_of requests tasks

-- each file below this number belongs to the world
abbrev pub AreFiles : Files → ℕ → Type 0
AreFiles files count = (file : ℕ) → file < count → IsFile files file

-- Every n-th element of a list, from index d on: the requests of a round that go to one of n
-- workers.
abbrev pub share_of : {A : Type 0} → ℕ → ℕ → List A → List A
share_of n d [] = []
share_of n zero (x ∷ xs) = x ∷ share_of n (n - 1) xs
share_of n (suc d) (x ∷ xs) = share_of n d xs

-- a worker answered its tasks one after another
abbrev pub AnswersEach : Files → Terms → List Task → List Answer → Sight → Sight → Type 0
AnswersEach files terms [] [] old new = new ≡ old
AnswersEach files terms [] (line ∷ lines) old new = ⊥
AnswersEach files terms (task ∷ tasks) [] old new = ⊥
AnswersEach files terms (task ∷ tasks) (line ∷ lines) old new =
    (mid : Sight) × AnswersTask files terms task old mid line
    × AnswersEach files terms tasks lines mid new

-- The requests of a round from the i-th on were answered by n workers, the i-th by worker i % n.
abbrev pub AnswersInTurn : Files → Terms → ℕ → ℕ → List Task → List Answer → List Sight → List Sight
    → Type 0
AnswersInTurn files terms n i [] [] old new = new ≡ old
AnswersInTurn files terms n i [] (line ∷ lines) old new = ⊥
AnswersInTurn files terms n i (task ∷ tasks) [] old new = ⊥
AnswersInTurn files terms n i (task ∷ tasks) (line ∷ lines) old new =
    (mid : Sight) × AnswersTask files terms task (sight_at old (i % n)) mid line
    × AnswersInTurn files terms n (i + 1) tasks lines (slice_set old (i % n) mid) new

-- the answers from the i-th on, taken in turn from the lists of n workers
abbrev pub in_turn : ℕ → ℕ → ℕ → List (List Answer) → List Answer
in_turn n i zero lists = []
in_turn n i (suc count) lists =
    slice_index_or (slice_index_or lists (i % n) []) (i / n) Synced
    ∷ in_turn n (i + 1) count lists

-- Each of these answers exists.
abbrev pub AreInTurn : ℕ → ℕ → List (List Answer) → Type 0
AreInTurn n count lists =
    (i : ℕ) → i < count → i / n < length (slice_index_or lists (i % n) [])

-- the text of answers, each with its line feed
abbrev pub answers_text : List Answer → List ℕ
answers_text answers = flat_map line_of answers

-- ---- several requests

-- A list of requests may be answered: the folder was entered, its files are those of the cache,
-- each request may be asked, and there are no more than a list may have.
pub record MayBeAnswered (folder : FolderState) (cache : CacheState) (requests : List Request)
    : Type 0 where
  pub entered : IsSome folder.entered
  pub files : cache.files.board.files ≡ folder.size
  pub asked : All MayAsk requests
  pub few : length requests ≤ max_requests

-- what was seen of the line's file is not older than the line
abbrev pub IsSeenOf : List ℕ → Line → Type 0
IsSeenOf seen line = (n : ℕ) → line.file ≡ Some n
    → ForSome (latest (basis_of line.answer)) (λ g. g ≤ slice_index seen n)

-- a line of an earlier round, or of this worker
abbrev pub IsKnownTo : ℕ → ℕ → Line → Type 0
IsKnownTo round w line = (line.place.round < round) ⊎ (line.place.worker ≡ w)

-- If there is only one worker, it has all permits.
abbrev pub HasAllAlone : ℕ → List Sight → Type 0
HasAllAlone passes crew = length crew ≡ 1 → (sight_at crew 0).permits ≡ passes

-- What the lines for the first requests say. No line that a worker knows (its own, and those of
-- earlier rounds) is newer than what it has seen, and its holds and counts follow from the lines.
pub record AreLinesSoFar (setup : Setup) (requests : List Request) (old : SourceState) (round : ℕ)
    (crew : List Sight) (lines : List Line) : Type 0 where
  pub met : MeetsAll setup requests lines
  pub fresh : AllPairs IsFresher lines
  pub counted : AreCounted [] lines
  pub faults : RisesByAtLeast (read_faults lines) old.faults (source_of_crew crew).faults
  pub moves : RisesByAtLeast (agains lines) old.moves (source_of_crew crew).moves
  pub workers : length crew ≡ setup.workers
  pub permits : HasAllAlone setup.terms.passes crew
  pub holds : (w : ℕ) → w < setup.workers
      → (sight_at crew w).holds + drops_by w lines ≡ holds_by w lines
  pub tallied : (w : ℕ) → w < setup.workers
      → IsTallied setup.files w lines (sight_at crew w).tally
  pub pins : (w : ℕ) → w < setup.workers → IsTrue setup.files.tells
      → (sight_at crew w).tally.apart ≡ 0 → TellTheirPins setup.workers w [] lines
  pub of_crew : All (λ line. line.place.worker < setup.workers) lines
  pub few : All (λ line. length line.needed ≤ max_texels) lines
  pub seen : All (λ line. (w : ℕ) → w < setup.workers → IsKnownTo round w line
      → IsSeenOf (sight_at crew w).seen line) lines

-- Some first rounds of a list were answered, and their lines written or put on the page, which was
-- empty. This many are refusals.
pub record SoFar (setup : Setup) (requests : List Request) (done : ℕ) (crew : List Sight)
    (old new : Progress) (page : List ℕ) (refused : ℕ) : Type 0 where
  pub lines : List Line
  pub round : ℕ
  pub so_far : AreLinesSoFar setup (take done requests) old.source 0 crew lines
  pub places : places_of setup.workers requests ≡ map (λ line. line.place) lines
      ++ places_from setup.workers (fresh_round round) (drop done requests)
  pub rounds : All (λ line. line.place.round < round) lines
  pub count : length lines ≡ done
  pub written : Passes (lines_text lines) (outgoing_of [] old.sink) (outgoing_of page new.sink)
  pub refusal : refused ≡ refusals lines
