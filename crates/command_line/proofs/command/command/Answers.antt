use Rattle.std.proofs.Common.{ap₂, ◌∙◌}
use Rattle.std.proofs.lemmas.Result.{IfOk-weaker}
use Rattle.clap.specs.Words.{with_rule}
use Rattle.command_line.specs.Command as spec
use Rattle.command_line.proofs.CommandLemmas.{bare_app}
use Rattle.command_line.proofs.command.command.Goals as goal

pub returns : goal.returns
unfolding spec.command
returns c =
    let bare = bare_app c.new.result c.no_binary_name.result c.disable_help_flag.result
    c.new.ensures.app c.no_binary_name.ensures c.disable_help_flag.ensures in
    let one = c.in_ok-arg.ensures.shape c.folder.ensures.local
    ∙ ap₂ with_rule bare c.folder.ensures.rule in
    let two = c.in_ok-arg-2.ensures.shape c.option.ensures.local
    ∙ ap₂ with_rule one c.option.ensures.rule in
    let three = c.in_ok-arg-3.ensures.shape c.option-2.ensures.local
    ∙ ap₂ with_rule two c.option-2.ensures.rule in
    let four = c.in_ok-arg-4.ensures.shape c.option-3.ensures.local
    ∙ ap₂ with_rule three c.option-3.ensures.rule in
    let five = c.in_ok-arg-5.ensures.shape c.option-4.ensures.local
    ∙ ap₂ with_rule four c.option-4.ensures.rule in
    let six = c.in_ok-arg-6.ensures.shape c.option-5.ensures.local
    ∙ ap₂ with_rule five c.option-5.ensures.rule in
    let seven = c.in_ok-arg-7.ensures.shape c.option-6.ensures.local
    ∙ ap₂ with_rule six c.option-6.ensures.rule in
    IfOk-weaker c.arg-8.result _ _
    (λ r adds. adds.shape c.flag.ensures.local ∙ ap₂ with_rule seven c.flag.ensures.rule)
    c.arg-8.ensures
