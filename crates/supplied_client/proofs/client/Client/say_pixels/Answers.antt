-- A region that does not fit its buffer is read again.
use Rattle.std.proofs.Common.{rules, refl, inl, inr, ap, ◌∙◌, arith}
use Rattle.tile_source.specs.Pass.{PassState}
use Rattle.supplied_client.specs.Client.{EndsRound}
use Rattle.supplied_client.proofs.RoundLemmas.{leaves_failed}
use Rattle.supplied_client.proofs.client.Client.say_pixels.Goals as goal

pub returns-in-Ok-clause-says : goal.returns-in-Ok-clause-says
returns-in-Ok-clause-says c =
    let ends : EndsRound 5 c.pixels.new.self c.end_repeated.new.self =
    c.end_repeated.ensures 5 (inr (inl refl)) in
    record {
      cache = ends.cache ∙ c.pixels.ensures.left.cache;
      ok = λ zero. absurd (omega (arith, zero));
      as_new = λ zero. absurd (omega (arith, zero));
      holds = ap (λ (p : PassState). p.pinned.holds) ends.pass ∙ c.pixels.ensures.holds;
      value = λ zero. absurd (omega (arith, zero));
      beyond = λ zero. absurd (omega (arith, zero));
      err = search rules;
      cause = search rules;
    }

pub returns-in-Ok-clause-left : goal.returns-in-Ok-clause-left
returns-in-Ok-clause-left c =
    leaves_failed c.args.file 5 c.args.self.now c.pixels.new.self c.end_repeated.new.self
    c.pixels.ensures.left (c.end_repeated.ensures 5 (inr (inl refl)))

pub returns-clause-left : goal.returns-clause-left
returns-clause-left c =
    leaves_failed c.args.file c.refuse.result c.args.self.now c.pixels.new.self c.refuse.new.self
    c.pixels.ensures.left c.refuse.ensures.ended
