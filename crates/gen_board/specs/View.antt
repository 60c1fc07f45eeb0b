-- Which board does a view belong to, what has it seen, and what does each call change of that?
use Rattle.std.specs.Prelude.{◌≡◌, ◌≢◌, ℕ, ◌+◌, ◌≤◌, max, List, slice_index}
use Rattle.atomic_table.specs.Seated.{TableId}

-- The identity of a board. No two boards have the same.
pub record BoardId : Type 0 where
  -- the number of its files, which are numbered from 0
  pub files : ℕ
  -- the table with its words
  pub table : TableId

-- A view, as contracts see it. Its numbers after the last file are 0.
pub record ViewState : Type 0 where
  -- the board that it belongs to
  pub board : BoardId
  -- the newest generation seen of each file, or 0
  pub seen : List ℕ
  -- how often it has read or raised the word of each file
  pub steps : List ℕ
  -- how often it has read the word of each file
  pub looks : List ℕ
  -- what the last read of each file's word found, or 0
  pub looked : List ℕ

-- for no file has less been seen than before
abbrev pub IsLater : List ℕ → List ℕ → Type 0
IsLater old new = (file : ℕ) → slice_index old file ≤ slice_index new file

-- A new board has this number of files, and its view has seen nothing and made no step.
pub record IsNewView (count : ℕ) (made : BoardId) (view : ViewState) : Type 0 where
  pub files : made.files ≡ count
  pub board : view.board ≡ made
  pub seen : (file : ℕ) → slice_index view.seen file ≡ 0
  pub steps : (file : ℕ) → slice_index view.steps file ≡ 0
  pub looks : (file : ℕ) → slice_index view.looks file ≡ 0
  pub looked : (file : ℕ) → slice_index view.looked file ≡ 0

-- A step on the word of a file. The answer is at least what was seen, and has now been seen. The
-- step is counted, and nothing else changes.
pub record AfterStep (file answer : ℕ) (old new : ViewState) : Type 0 where
  pub board : new.board ≡ old.board
  pub newer : slice_index old.seen file ≤ answer
  pub seen : slice_index new.seen file ≡ answer
  pub seen_others : (f : ℕ) → f ≢ file → slice_index new.seen f ≡ slice_index old.seen f
  pub later : IsLater old.seen new.seen
  pub steps : slice_index new.steps file ≡ slice_index old.steps file + 1
  pub steps_others : (f : ℕ) → f ≢ file → slice_index new.steps f ≡ slice_index old.steps f

-- The step was a read, which found this number. It is counted.
pub record CountsLook (file found : ℕ) (old new : ViewState) : Type 0 where
  pub looks : slice_index new.looks file ≡ slice_index old.looks file + 1
  pub looks_others : (f : ℕ) → f ≢ file → slice_index new.looks f ≡ slice_index old.looks f
  pub looked : slice_index new.looked file ≡ found
  pub looked_others : (f : ℕ) → f ≢ file → slice_index new.looked f ≡ slice_index old.looked f

-- No word was read.
pub record KeepsLooks (old new : ViewState) : Type 0 where
  pub looks : new.looks ≡ old.looks
  pub looked : new.looked ≡ old.looked

-- The view belongs to the same board, and has seen and counted the same.
pub record IsSameView (old new : ViewState) : Type 0 where
  pub board : new.board ≡ old.board
  pub seen : new.seen ≡ old.seen
  pub steps : new.steps ≡ old.steps
  pub looks : new.looks ≡ old.looks
  pub looked : new.looked ≡ old.looked

-- The view has seen the greater of both for each file, and keeps its own counts.
pub record ViewAfterJoin (other old new : ViewState) : Type 0 where
  pub board : new.board ≡ old.board
  pub seen : (file : ℕ)
      → slice_index new.seen file ≡ max (slice_index old.seen file) (slice_index other.seen file)
  pub later : IsLater old.seen new.seen
  pub steps : new.steps ≡ old.steps
  pub looks : new.looks ≡ old.looks
  pub looked : new.looked ≡ old.looked
