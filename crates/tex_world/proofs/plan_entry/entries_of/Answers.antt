use Rattle.std.proofs.Common.{◌==◌, arith}
use Rattle.std.proofs.lemmas.Bool.Decides.{nat_tests}
use Rattle.tex_world.proofs.PlanLemmas.{some_pass}
use Rattle.tex_world.proofs.plan_entry.entries_of.Goals as goal

pub returns-in-Err-clause-answers : goal.returns-in-Err-clause-answers
returns-in-Err-clause-answers g c none =
    absurd (some_pass (λ e. g.E.PlanEntry.tap_of e == c.args.tap) c.args.entries.now
    c.loop-entry.entry-index c.entry-item.result c.loop-entry-test.true
    (grind (arith, nat_tests)) none)
