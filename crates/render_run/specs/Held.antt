-- How many tiles does a worker hold, as its lines show?
use Rattle.std.specs.Prelude.{◌≡◌, ℕ, ◌+◌, ◌==◌, ◌&&◌, Bool, true, false, cond, List, [], ◌∷◌, ◌++◌, ⊤}
use Rattle.std.specs.List.{count_by}
use Rattle.request_lang.specs.declared.answer.Answer.{Answer}
use Rattle.request_lang.specs.declared.answer.Answer.TheVariants.{Held, Dropped}
use Rattle.render_run.specs.Reply.{Line}

-- one if the test passes
abbrev pub one_if : Bool → ℕ
one_if b = cond b 1 0

-- whether the answer says that a tile is held
abbrev pub is_hold : Answer → Bool
is_hold (Held generation rect) = true
is_hold _ = false

-- whether the answer says that the oldest hold was released
abbrev pub is_drop : Answer → Bool
is_drop Dropped = true
is_drop _ = false

-- how many tiles a worker has held, by these lines, and how many it has released
abbrev pub holds_by : ℕ → List Line → ℕ
holds_by w lines = count_by (λ line. (line.place.worker == w) && is_hold line.answer) lines

abbrev pub drops_by : ℕ → List Line → ℕ
drops_by w lines = count_by (λ line. (line.place.worker == w) && is_drop line.answer) lines

-- The worker of a line holds what its earlier lines leave.
abbrev pub IsCounted : List Line → Line → Type 0
IsCounted before line =
    line.held + drops_by line.place.worker before ≡ holds_by line.place.worker before

-- each of these lines, which follow others, has a worker that holds what its earlier lines leave
abbrev pub AreCounted : List Line → List Line → Type 0
AreCounted before [] = ⊤
AreCounted before (line ∷ lines) =
    IsCounted before line × AreCounted (before ++ line ∷ []) lines
