-- When is no line older than earlier lines about the same file?
use Rattle.std.specs.Prelude.{◌≡◌, ◌⊎◌, ℕ, ◌<◌, ◌≤◌, Some}
use Rattle.std.specs.Option.{ForSome}
use Rattle.request_lang.specs.declared.answer.Answer.{Answer}
use Rattle.request_lang.specs.Basis.{basis_of, earliest, latest}
use Rattle.render_run.specs.Dealing.{Place}
use Rattle.render_run.specs.Reply.{Line}

-- The first place is answered before the second: in an earlier round, or in the same round by the
-- same worker, which answers in the order of its requests.
abbrev pub IsBefore : Place → Place → Type 0
IsBefore first second = (first.round < second.round)
    ⊎ ((first.round ≡ second.round) × (first.worker ≡ second.worker))

-- The second line, if it is about the same file and answered after the first, prints no older
-- generation.
abbrev pub IsFresher : Line → Line → Type 0
IsFresher first second = IsBefore first.place second.place
    → (n : ℕ) → first.file ≡ Some n → second.file ≡ Some n
    → ForSome (latest (basis_of first.answer))
    (λ g. ForSome (earliest (basis_of second.answer)) (λ h. g ≤ h))

-- An answer about a file, whose newest seen generation was `before` and is now `after`.
pub record KeepsFresh (before after : ℕ) (answer : Answer) : Type 0 where
  pub later : before ≤ after
  pub early : ForSome (earliest (basis_of answer)) (λ g. before ≤ g)
  pub late : ForSome (latest (basis_of answer)) (λ g. g ≤ after)
