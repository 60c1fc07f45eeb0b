-- What is read of a command without its arguments?
use Rattle.std.proofs.Common.{◌≡◌, true, codes, ap, ◌∙◌}
use Rattle.clap.specs.Words.{app_of, new_app}
use Rattle.clap.specs.declared.builder.command.Command.TheViews.{out-Command}
use Rattle.clap.specs.Simple.{app_of_fields, on_top, Shape}
use Rattle.clap.specs.declared.builder.command.Command.{Command}
use Rattle.clap.specs.declared.builder.command.Command.TheOpen.{Command-F}
use Rattle.command_line.specs.Command.{bare}

-- one that was made by its name, then reads every word, and then has no `--help`
pub bare_app : (made reads helpless : Command) → app_of made ≡ new_app (codes "texcache")
    → out-Command reads ≡ record (out-Command made) { no_binary_name = true }
    → out-Command helpless ≡ record (out-Command reads) { disable_help_flag = true }
    → app_of helpless ≡ bare
bare_app made reads helpless named every none =
    ap app_of_fields none
    ∙ ap (λ (f : Command-F Command). app_of_fields (record f { disable_help_flag = true })) every
    ∙ ap (on_top (λ (s : Shape). record s { no_binary_name = true; disable_help_flag = true })) named
