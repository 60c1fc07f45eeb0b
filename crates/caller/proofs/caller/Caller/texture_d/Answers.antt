-- The cause speaks of the cut and the tap that the cache was lent; they equal those at the call.
use Rattle.std.proofs.Common.{rules, ap, ◌∙◌}
use Rattle.file_table.specs.Calls.{sighted}
use Rattle.caller.proofs.Causes.{texture_cause_of}
use Rattle.caller.proofs.caller.Caller.texture_d.Goals as goal

pub returns-clause-answers : goal.returns-clause-answers
returns-clause-answers g c = record {
  value = search rules;
  cause = texture_cause_of g.T.W.World.files c.args.file c.texture_d.result _
      (ap (λ x. x.gate.cut) c.deref.ensures ∙ ap (λ x. x.cache.gate.cut) c.self.view_is)
      (ap (λ x. sighted x.pass.view (g.T.Tap.state x.tap)) c.self.view_is)
      c.texture_d.ensures.answers.cause;
  err = search rules;
  warm = search rules;
}
