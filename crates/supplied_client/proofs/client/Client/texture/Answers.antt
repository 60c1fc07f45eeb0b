-- The cause speaks of the client after its round began; that equals the client at the call.
use Rattle.std.proofs.Common.{rules, ap, ◌∙◌}
use Rattle.file_table.specs.Calls.{sighted}
use Rattle.caller.proofs.Causes.{texture_cause_of}
use Rattle.supplied_tap.specs.SuppliedTap.{tap_state}
use Rattle.supplied_tap.specs.SuppliedWorld.{supplied_files}
use Rattle.supplied_client.proofs.client.Client.texture.Goals as goal

pub returns-clause-answers : goal.returns-clause-answers
returns-clause-answers c = record {
  value = search rules;
  cause = texture_cause_of supplied_files c.args.file c.texture.result _
      (ap (λ x. x.cache.gate.cut) c.self.view_is ∙ ap (λ x. x.gate.cut) c.begin.ensures.cache)
      (ap (λ x. sighted x.pass.view (tap_state x.tap)) c.self.view_is
      ∙ ap (λ p. sighted p.view (tap_state c.begin.new.self.tap)) c.begin.ensures.pass
      ∙ ap (λ s. sighted c.args.self.now.pass.view s) c.begin.ensures.tap)
      c.texture.ensures.answers.cause;
  err = search rules;
  warm = search rules;
}
