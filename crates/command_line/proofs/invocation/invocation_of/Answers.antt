use Rattle.std.proofs.Common.{map, ◌∙◌, rules}
use Rattle.std.specs.String.{string_bytes}
use Rattle.command_line.proofs.InvocationLemmas.{asked_of_matches, reads_found, reads_refused}
use Rattle.command_line.proofs.invocation.invocation_of.Goals as goal

pub returns-clause-exact : goal.returns-clause-exact
returns-clause-exact c =
    let takes = c.in_ok-matches.ensures in
    rw c.ok_or.ensures.value
    (
    reads_found c.asked_for.result _
    (
    c.asked_for.ensures.value
    ∙ asked_of_matches (map string_bytes c.args.words.now) _ takes.0 takes.1
    )
    )

pub returns-in_err-matches-clause-exact : goal.returns-in_err-matches-clause-exact
returns-in_err-matches-clause-exact c =
    let refused = reads_refused (map string_bytes c.args.words.now) c.in_err-matches.field-0.0
    c.in_err-matches.ensures in
    search rules
