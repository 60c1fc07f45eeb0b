-- What do the arguments ask for?
use Rattle.std.specs.Prelude.{◌≡◌, ℕ, List, [], false, Option, Some, None, Result, Ok, Err, ⊤}
use Rattle.std.specs.Prelude.{if◌then◌else◌, codes}
use Rattle.clap.specs.Words.{Row, Text, first_of, fault_of, found_of, matches_of, rows_of}
use Rattle.clap.specs.Walk.{is_empty}
use Rattle.clap.specs.declared.parser.matches.ArgMatches.{ArgMatches}
use Rattle.clap.specs.declared.error.kind.ErrorKind.{ErrorKind}
use Rattle.clap.specs.declared.error.kind.ErrorKind.TheVariants as kind
use Rattle.command_line.specs.declared.options.RunOptions.{RunOptions}
use Rattle.command_line.specs.declared.invocation.Invocation.{Invocation}
use Rattle.command_line.specs.declared.invocation.WordsError.{WordsError}
use Rattle.command_line.specs.declared.invocation.WordsError.TheVariants.{Bad, NoMemory}
use Rattle.command_line.specs.Command.{command}
use Rattle.command_line.specs.RunOptions.{options_of, ◌>>=◌}

-- the path of a folder, and options
abbrev pub Asked : Type 0
Asked = List ℕ × RunOptions

-- what the parsed arguments ask for
abbrev pub asked_for : List Row → Option Asked
asked_for rows = do
  folder ← first_of (codes "FOLDER") rows
  options ← options_of rows
  Some (folder, options)

-- What the arguments ask for, if the command takes them and each number is in its range.
unfoldable pub invocation_of : List Text → Option Asked
invocation_of words =
    if is_empty (fault_of command words) then asked_for (matches_of command words) else None

-- the path and the options of an invocation
abbrev pub asked_in : Invocation → Asked
asked_in i = (i.folder.now, i.options)

-- exactly what is asked for, unless memory runs out
abbrev pub IsAsked : Option Asked → Result Invocation WordsError → Type 0
IsAsked said (Ok i) = said ≡ Some (asked_in i)
IsAsked said (Err Bad) = said ≡ None
IsAsked said (Err NoMemory) = ⊤

-- the arguments are accepted with this result; or they are not, or memory ran out
abbrev pub TakesWords : List Text → Result ArgMatches WordsError → Type 0
TakesWords words (Ok m) =
    (fault_of command words ≡ []) × (rows_of (found_of m) ≡ matches_of command words)
TakesWords words (Err Bad) = is_empty (fault_of command words) ≡ false
TakesWords words (Err NoMemory) = ⊤

-- the error for arguments that have an error of this kind
abbrev pub refused : ErrorKind → WordsError
refused kind.OutOfMemory = NoMemory
refused _ = Bad
