-- What has a worker counted, as its lines show? (docs/REQUESTS.md, "The closing lines")
use Rattle.std.specs.Prelude.{◌≡◌, ℕ, ◌+◌, ◌==◌, ◌≤◌, if◌then◌else◌, IsTrue, List, [], ◌++◌, Bool}
use Rattle.std.specs.Prelude.{length, fold, ◌∷◌, ⊤}
use Rattle.std.specs.List.{All, sum_by}
use Rattle.micro.specs.Recent.{hit_count, recent}
use Rattle.request_lang.specs.declared.closing.Counts.{Counts}
use Rattle.request_lang.specs.Basis.{basis_of}
use Rattle.render_run.specs.Needed.{empties, is_calm}
use Rattle.render_run.specs.Pins.{TellsPins}
use Rattle.render_run.specs.Reply.{Line}

-- the number of cells that a worker's answers needed
abbrev pub needs_by : ℕ → List Line → ℕ
needs_by w lines =
    sum_by (λ line. if line.place.worker == w then length line.needed else 0) lines

-- The keys of the cells that a worker needed since its microcache was last emptied, and its hits
-- before that.
pub record Needed : Type 0 where
  pub hits : ℕ
  pub since : List ℕ

-- nothing was needed yet
abbrev pub none_needed : Needed
none_needed = record { hits = 0; since = [] }

-- all hits: a need is a hit if its key is one of the last two different keys before it
abbrev pub hits_in : Needed → ℕ
hits_in n = n.hits + hit_count n.since

-- after one more line of the worker
abbrev pub with_own : Needed → Line → Needed
with_own n line =
    if empties line.answer then record { hits = hits_in n; since = [] }
    else record { hits = n.hits; since = n.since ++ line.needed }

-- after one more line of any worker
abbrev pub with_line : ℕ → Needed → Line → Needed
with_line w n line = if line.place.worker == w then with_own n line else n

-- after all lines, one after another
abbrev pub needed_by : ℕ → List Line → Needed
needed_by w lines = fold (with_line w) none_needed lines

-- the number of needs that were hits
abbrev pub hits_by : ℕ → List Line → ℕ
hits_by w lines = hits_in (needed_by w lines)

-- No line of a worker reports an I/O error, a newer generation, or out of memory.
abbrev pub AreCalm : ℕ → List Line → Type 0
AreCalm w lines =
    All (λ line. line.place.worker ≡ w → IsTrue (is_calm (basis_of line.answer))) lines

-- ---- pins

-- The number of tiles that the worker of a line has: those that it held, and those of the last two
-- cells at most that it needed since its microcache was emptied.
abbrev pub tiles_by : ℕ → List Line → Line → ℕ
tiles_by w before line = line.held + length (recent (needed_by w before).since)

-- If no earlier line of a worker failed, its line about the shards counts the pins of its tiles,
-- and no others if there is one worker.
abbrev pub TellsItsPins : ℕ → ℕ → List Line → Line → Type 0
TellsItsPins workers w before line = line.place.worker ≡ w → AreCalm w before
    → TellsPins (tiles_by w before line) (workers ≡ 1) line.answer

-- each of these lines, which follow others, counts the pins of its worker's tiles
abbrev pub TellTheirPins : ℕ → ℕ → List Line → List Line → Type 0
TellTheirPins workers w before [] = ⊤
TellTheirPins workers w before (line ∷ lines) =
    TellsItsPins workers w before line × TellTheirPins workers w (before ++ line ∷ []) lines

-- ---- the counts

-- The counts of a worker are those that its lines show.
pub record AreExact (w : ℕ) (lines : List Line) (counts : Counts) : Type 0 where
  pub needs : counts.needs ≡ needs_by w lines
  pub hits : counts.hits ≡ hits_by w lines

-- What the counts of a worker say. There are no more hits than needs. In a modelled world its
-- answers needed no more than was counted, and exactly that if no line failed and no need was
-- uncached.
pub record AreCountsOf (tells : Bool) (w : ℕ) (lines : List Line) (counts : Counts)
    : Type 0 where
  pub few : counts.hits ≤ counts.needs
  pub least : IsTrue tells → needs_by w lines ≤ counts.needs
  pub exact : IsTrue tells → AreCalm w lines → counts.apart ≡ 0 → AreExact w lines counts

-- a worker that has counted nothing
abbrev pub no_counts : Counts
no_counts = record { needs = 0; hits = 0; apart = 0 }
