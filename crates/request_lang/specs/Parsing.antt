-- What does a parsing function answer about what it read?
use Rattle.std.specs.Prelude.{◌≡◌, ℕ, List, Result, Ok, Err, ⊤}
use Rattle.std.specs.Global.{Vec}
use Rattle.request_lang.specs.declared.request.Request.{Request}
use Rattle.request_lang.specs.declared.cause.Cause.{Cause}
use Rattle.request_lang.specs.declared.cause.ParseError.{ParseError}
use Rattle.request_lang.specs.declared.cause.ParseError.TheVariants as parsing
use Rattle.request_lang.specs.declared.cause.Refusal.{Refusal}
use Rattle.request_lang.specs.declared.cause.Refusal.TheVariants as line
use Rattle.request_lang.specs.Cause.{cause_number}
use Rattle.request_lang.specs.Grammar.{list_of}

-- exactly the content of the list, unless memory runs out
abbrev pub Parses : List ℕ → Result (Vec Request) ParseError → Type 0
Parses bytes (Ok requests) = list_of bytes ≡ Ok requests.items
Parses bytes (Err (parsing.Bad number why)) =
    list_of bytes ≡ Err (record { line = number; why = why })
Parses bytes (Err parsing.NoMemory) = ⊤

-- the error of a list whose line of this number could not be parsed
abbrev pub refused_at : ℕ → Refusal → ParseError
refused_at number (line.Bad cause) = parsing.Bad number (cause_number cause)
refused_at number line.NoMemory = parsing.NoMemory

-- exactly this result, unless memory runs out
abbrev pub Gives : {A : Type 0} → Result A Refusal → Result A Cause → Type 0
Gives (Ok value) said = said ≡ Ok value
Gives (Err (line.Bad cause)) said = said ≡ Err cause
Gives (Err line.NoMemory) said = ⊤
