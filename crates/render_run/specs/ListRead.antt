-- What does reading a list from a feed say?
use Rattle.std.specs.Prelude.{◌≡◌, ℕ, ◌≤◌, List, [], length, take, drop, Option, Some}
use Rattle.std.specs.Prelude.{⊤}
use Rattle.std.specs.Option.{ForSome}
use Rattle.tex_world.specs.Counts.{Rises}
use Rattle.render_run.specs.declared.list.ListError.{ListError}
use Rattle.render_run.specs.declared.list.ListError.TheVariants as list
use Rattle.request_lang.specs.Grammar.{Parsed, max_list_bytes, list_of}
use Rattle.render_run.specs.Around.{FeedState}

-- the bytes were taken off the front of what the feed had left, if it is modelled
pub record IsTaken (bytes : List ℕ) (old new : Option (List ℕ)) : Type 0 where
  pub front : ForSome old (λ left. bytes ≡ take (length bytes) left)
  pub enough : ForSome old (λ left. length bytes ≤ length left)
  pub rest : ForSome old (λ left. new ≡ Some (drop (length bytes) left))

-- the feed was read to its end, and these were its bytes, if it is modelled
pub record IsReadToEnd (bytes : List ℕ) (old new : Option (List ℕ)) : Type 0 where
  pub all : ForSome old (λ left. left ≡ bytes)
  pub end : ForSome old (λ left. new ≡ Some [])

-- The bytes were taken off the front of the feed. They are all that it had, unless they are more
-- than a list may have.
pub record IsRead (bytes : List ℕ) (old new : Option (List ℕ)) : Type 0 where
  pub taken : IsTaken bytes old new
  pub to_end : length bytes ≤ max_list_bytes → IsReadToEnd bytes old new

-- The bytes that were read from the feed are a list with this content.
pub record FeedSays (said : Parsed) (old new : FeedState) : Type 0 where
  pub list : List ℕ
  pub read : IsRead list old.left new.left
  pub says : list_of list ≡ said

-- ---- errors

-- why the list could not be read
abbrev pub ListCause : FeedState → FeedState → ListError → Type 0
ListCause old new list.Failed = Rises old.faults new.faults
ListCause old new list.NoMemory = ⊤
