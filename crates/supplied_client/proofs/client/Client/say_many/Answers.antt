-- A lookup failed: the answer says why, and the end of the round keeps the rest.
use Rattle.std.proofs.Common.{rules, ap, ◌∙◌, arith}
use Rattle.std.proofs.lemmas.Grind.{common_steps}
use Rattle.tile_source.specs.Pass.{PassState}
use Rattle.supplied_client.proofs.BatchLemmas.{same_value}
use Rattle.supplied_client.proofs.RoundLemmas.{leaves_failed}
use Rattle.supplied_client.proofs.client.Client.say_many.Goals as goal

pub returns-in-Err-clause-says : goal.returns-in-Err-clause-says
returns-in-Err-clause-says c = record {
  cache = c.refuse.ensures.ended.cache ∙ c.texture_many.ensures.left.cache;
  ok = λ zero. absurd (c.refuse.ensures.other zero);
  beyond = grind (arith, common_steps);
  unopened = search rules;
  of = search rules;
  first = grind (arith, common_steps);
  rest = λ _ k low. same_value c.in-Some-checked_mul.count k c.args.out.now c.texture_many.new.out
      (search rules) (search rules) (search rules);
  unwritten = grind (arith, common_steps);
  holds = ap (λ (p : PassState). p.pinned.holds) c.refuse.ensures.ended.pass
      ∙ c.texture_many.ensures.holds;
  cause = search rules;
  warm = search rules;
}

pub returns-in-Err-clause-left : goal.returns-in-Err-clause-left
returns-in-Err-clause-left c =
    leaves_failed c.args.batch.now.file c.refuse.result c.args.self.now c.texture_many.new.self
    c.refuse.new.self c.texture_many.ensures.left c.refuse.ensures.ended
