-- What is true of a board between atomic steps, and what does each kind of step tell its seat?
use Rattle.std.specs.Prelude.{◌≡◌, ℕ, ◌+◌, ◌≤◌, max, List, [], ◌∷◌, length, replicate}
use Rattle.std.specs.Prelude.{slice_index, slice_set}
use mathlib.Core.Option.{some}
use lib.ListN.{get_elem?}
use Rattle.atomic_table.specs.Table.{State, Me, Step}
use Rattle.tex_world.specs.World.{Files}
use Rattle.tex_world.specs.Tap.{IsLeast}
use Rattle.gen_board.specs.declared.sight.Sight.{Sight}

-- one word for each file, and at least one
abbrev pub word_count : ℕ → ℕ
word_count files = max 1 files

-- nothing was seen, and no step was made
abbrev pub first_sight : ℕ → Sight
first_sight files = record {
  seen = replicate files 0;
  steps = replicate files 0;
  looks = replicate files 0;
  looked = replicate files 0;
}

-- what a spent seat knows: nothing
abbrev pub spent_sight : Sight
spent_sight = record { seen = []; steps = []; looks = []; looked = [] }

-- the number is 0 or a generation of the file that exists, and at most the word
abbrev pub IsSeen : Files → List ℕ → ℕ → ℕ → Type 0
IsSeen world words file seen = IsLeast world file seen × (seen ≤ slice_index words file)

-- The invariant: each word is 0 or a generation of its file that exists. So is each number that a
-- seat has seen, and it is at most the word.
pub record IsBoard (world : Files) (files : ℕ) (s : State (Unit {0}) Sight) : Type 0 where
  pub count : length s.words ≡ word_count files
  pub words : (file : ℕ) → IsLeast world file (slice_index s.words file)
  pub views : (seat : ℕ) (sight : Sight) → get_elem? s.views seat ≡ some sight
      → (file : ℕ) → IsSeen world s.words file (slice_index sight.seen file)

-- what the seat knows after a step on the word of a file, in which it saw this number
abbrev pub stepped_sight : Sight → ℕ → ℕ → Sight
stepped_sight old file n = record {
  seen = slice_set old.seen file n;
  steps = slice_set old.steps file (slice_index old.steps file + 1);
  looks = old.looks;
  looked = old.looked;
}

-- what the seat knows after it has read the word of a file and found this number
abbrev pub looked_sight : Sight → ℕ → ℕ → Sight
looked_sight old file n = record {
  seen = slice_set old.seen file n;
  steps = slice_set old.steps file (slice_index old.steps file + 1);
  looks = slice_set old.looks file (slice_index old.looks file + 1);
  looked = slice_set old.looked file n;
}

-- A read finds 0 or a generation that exists, at least what was seen, and has now seen it.
pub record Looked (world : Files) (step : Step (Unit {0})) (old : Me (Unit {0}) Sight) (found : ℕ)
    (new : Me (Unit {0}) Sight) : Type 0 where
  pub real : IsLeast world step.word found
  pub newer : slice_index old.0.seen step.word ≤ found
  pub sight : new.0 ≡ looked_sight old.0 step.word found
  pub slots : new.1 ≡ old.1

-- A raise finds 0 or a generation that exists, at least what was seen. It has now seen the greater
-- of it and the generation given.
pub record Raised (world : Files) (step : Step (Unit {0})) (old : Me (Unit {0}) Sight) (found : ℕ)
    (new : Me (Unit {0}) Sight) : Type 0 where
  pub real : IsLeast world step.word found
  pub newer : slice_index old.0.seen step.word ≤ found
  pub sight : new.0 ≡ stepped_sight old.0 step.word (max found step.first)
  pub slots : new.1 ≡ old.1

-- the greater of both numbers for each file
abbrev pub later_of : List ℕ → List ℕ → List ℕ
later_of [] ys = []
later_of (x ∷ xs) [] = x ∷ xs
later_of (x ∷ xs) (y ∷ ys) = max x y ∷ later_of xs ys

-- what two seats have seen together, with the counts of the first
abbrev pub both_sights : Sight → Sight → Sight
both_sights own other = record {
  seen = later_of own.seen other.seen;
  steps = own.steps;
  looks = own.looks;
  looked = own.looked;
}
