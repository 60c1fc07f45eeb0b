-- What do the words ask for, by what the command makes of them?
use Rattle.std.proofs.Common.{◌≡◌, true, List, [], ◌⊎◌, ◌∷◌, inl, inr, refl, sym}
use Rattle.std.proofs.Common.{ap, subst, ◌∙◌, false, rules}
use Rattle.std.specs.Prelude.{Option, Some, None, option_map, Err}
use Rattle.std.specs.Option.{ok_or}
use Rattle.clap.specs.Words.{App, HasMatchesOf, HasKind, IsAmong, Kinds, Row, Text}
use Rattle.clap.specs.Words.{fault_of, is_simple, is_simple_and_free, kind_of, matches_of}
use Rattle.clap.specs.Words.{found_of, rows_of}
use Rattle.clap.specs.Walk.{is_empty}
use Rattle.clap.specs.declared.parser.matches.ArgMatches.{ArgMatches}
use Rattle.clap.specs.declared.error.Error.{Error}
use Rattle.clap.specs.declared.error.kind.ErrorKind.{ErrorKind}
use Rattle.clap.specs.declared.error.kind.ErrorKind.TheVariants.{OutOfMemory}
use Rattle.clap.proofs.OnLiterals.{clap_on_literals}
use Rattle.command_line.specs.declared.invocation.Invocation.{Invocation}
use Rattle.command_line.specs.declared.invocation.WordsError.{WordsError}
use Rattle.command_line.specs.declared.invocation.WordsError.TheVariants.{Bad, NoMemory}
use Rattle.command_line.specs.Command.{command}
use Rattle.command_line.specs.Invocation.{Asked, asked_for, invocation_of, asked_in, IsAsked}
use Rattle.command_line.specs.Invocation.{TakesWords, refused}

-- the command is one of those whose matches and errors are known from the words
pub command_known : is_simple_and_free command ≡ true
unfolding clap_on_literals command
command_known = refl

pub command_simple : is_simple command ≡ true
unfolding clap_on_literals command
command_simple = refl

-- ---- what the command makes of the words

module _ (a : App) (words : List Text) (named : a ≡ command) where
  -- matches
  pub takes_matches : (m : ArgMatches)
      → (is_simple_and_free a ≡ true → fault_of a words ≡ []) → HasMatchesOf a words m
      → (fault_of command words ≡ []) × (rows_of (found_of m) ≡ matches_of command words)
  takes_matches m kinds matches = (
    ap (λ b. fault_of b words) (sym named) ∙ kinds (ap is_simple_and_free named ∙ command_known),
    (matches (ap is_simple named ∙ command_simple)).0 ∙ ap (λ b. matches_of b words) named,
  )

  -- an error
  pub takes_none : (e : Error) → (is_simple_and_free a ≡ true → HasKind (fault_of a words) e)
      → TakesWords words (Err (refused (kind_of e)))
  takes_none e kinds =
      refused_by (kind_of e)
      (subst (λ b. HasKind (fault_of b words) e) named
      (kinds (ap is_simple_and_free named ∙ command_known)))
    where
      some_kind : (k : ErrorKind) (kinds : Kinds) → IsAmong k kinds → is_empty kinds ≡ false
      some_kind k [] among = absurd among
      some_kind k (x ∷ xs) among = search rules

      not_taken : is_empty (fault_of command words) ≡ false → (error : WordsError)
          → TakesWords words (Err error)
      not_taken e Bad = e
      not_taken e NoMemory = tt

      refused_by : (k : ErrorKind) → (k ≡ OutOfMemory) ⊎ IsAmong k (fault_of command words)
          → TakesWords words (Err (refused k))
      refused_by k (inl e) = rw e tt
      refused_by k (inr among) =
          not_taken (some_kind k (fault_of command words) among) (refused k)

-- ---- what they ask for

-- words that it takes
pub asked_of_matches : (words : List Text) (rows : List Row) → fault_of command words ≡ []
    → rows ≡ matches_of command words → asked_for rows ≡ invocation_of words
unfolding invocation_of
asked_of_matches words rows none e = rw (none, e) refl

-- words that it does not take
none_asked : (words : List Text) → is_empty (fault_of command words) ≡ false
    → invocation_of words ≡ None
unfolding invocation_of
none_asked words some = rw some refl

-- an error of the command's is one of the call's
pub reads_refused : (words : List Text) (error : WordsError) → TakesWords words (Err error)
    → IsAsked (invocation_of words) (Err error)
reads_refused words Bad some = none_asked words some
reads_refused words NoMemory some = tt

-- what was found is what is said
pub reads_found : (found : Option Invocation) (said : Option Asked)
    → option_map asked_in found ≡ said → IsAsked said (ok_or found Bad)
reads_found None said e = sym e
reads_found (Some i) said e = sym e
