-- Which options do the parsed arguments give?
use Rattle.std.specs.Prelude.{ℕ, ◌≤◌, List, Option, Some, None, not, codes, Bool}
use Rattle.std.specs.Prelude.{false}
use Rattle.std.specs.Option.{option_map_or}
use Rattle.std.specs.Str.{bytes_eq}
use Rattle.clap.specs.Words.{Row, Text, first_of}
use Rattle.tiff_format.specs.Cut.{IsCut}
use Rattle.command_line.specs.declared.range.NumberRange.{NumberRange}
use Rattle.command_line.specs.declared.options.RunOptions.{RunOptions}
use Rattle.command_line.specs.Range as range

-- applies a function to a value, if there is one
infixl 10 ◌>>=◌
abbrev pub ◌>>=◌ : {A B : Type 0} → Option A → (A → Option B) → Option B
None >>= next = None
(Some v) >>= next = next v

-- the number of an option, given or by default
abbrev pub number : NumberRange → Text → List Row → Option ℕ
number of name rows = range.number_or_default of (first_of name rows)

-- whether the flag is given
abbrev pub is_given : Text → List Row → Bool
is_given name rows = option_map_or (λ text. bytes_eq text (codes "true")) (first_of name rows) false

-- the options, if each number is in its range
abbrev pub options_of : List Row → Option RunOptions
options_of rows = do
  workers ← number range.workers (codes "workers") rows
  budget ← number range.budget (codes "budget") rows
  shards ← number range.shards (codes "shards") rows
  handles ← number range.handles (codes "handles") rows
  autotile ← number range.autotile (codes "autotile") rows
  slots ← number range.slots (codes "slots") rows
  Some (record {
    workers = workers;
    budget = budget;
    shards = shards;
    handles = handles;
    cut = record { autotile = autotile; automip = not (is_given (codes "no-automip") rows) };
    slots = slots;
  })

-- each number is in its range
pub record IsInRange (o : RunOptions) : Type 0 where
  pub workers : (1 ≤ o.workers) × (o.workers ≤ 16)
  pub budget : o.budget ≤ range.budget.most
  pub shards : (1 ≤ o.shards) × (o.shards ≤ 64)
  pub handles : (1 ≤ o.handles) × (o.handles ≤ 1024)
  pub cut : IsCut o.cut
  pub slots : o.slots ≤ 65536
