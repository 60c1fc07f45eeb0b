-- Which arguments does the command take? (docs/REQUESTS.md, "The command line")
use Rattle.std.specs.Prelude.{Some, true, codes}
use Rattle.clap.specs.Words.{App, Rule, Text, new_app, new_rule, with_rule}
use Rattle.clap.specs.Simple.{on_top}
use Rattle.clap.specs.declared.builder.action.ArgAction.TheVariants.{Set, SetTrue}

-- FOLDER: the argument without a name, which is required
abbrev pub folder : Rule
folder = record (new_rule (codes "FOLDER")) { required = true; action = Some Set }

-- an option: --NAME VALUE or --NAME=VALUE, at most once
abbrev pub option : Text → Rule
option name = record (new_rule name) { long = Some name; action = Some Set }

-- a flag: --NAME, at most once
abbrev pub flag : Text → Rule
flag name = record (new_rule name) { long = Some name; action = Some SetTrue }

-- the program's name is not among the arguments, and `--help` is not one of the command's
abbrev pub bare : App
bare = on_top (λ s. record s { no_binary_name = true; disable_help_flag = true })
    (new_app (codes "texcache"))

-- The command: its folder, its six options and its flag.
unfoldable pub command : App
command =
    with_rule (with_rule (with_rule (with_rule (with_rule (with_rule (with_rule (with_rule bare
    folder) (option (codes "workers"))) (option (codes "budget"))) (option (codes "shards")))
    (option (codes "handles"))) (option (codes "autotile"))) (option (codes "slots")))
    (flag (codes "no-automip"))
