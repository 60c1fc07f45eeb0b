use Rattle.std.proofs.Common.{◌≡◌, ◌∙◌, sym, subst, arith}
use Rattle.std.proofs.lemmas.List.{length-map}
use Rattle.std.proofs.lemmas.List.Elements.{All-set}
use Rattle.render_run.specs.Around.{Sight}
use Rattle.render_run.specs.Answering.{SeesNoLess}
use Rattle.render_run.proofs.CrewLemmas.{all_at, gathered_more, same_more, sight_is}
use Rattle.render_run.proofs.crew.gather.Goals as goal

pub loop-post-preserved : goal.loop-post-preserved
loop-post-preserved g c = record {
  kept = record {
    seen = λ n. omega (
      arith,
      c.loop-post.invariant.kept.seen n,
      c.carry_from.ensures.kept.seen n,
    );
    permits = c.carry_from.ensures.kept.permits ∙ c.loop-post.invariant.kept.permits;
    holds = c.carry_from.ensures.kept.holds ∙ c.loop-post.invariant.kept.holds;
    tally = c.carry_from.ensures.kept.tally ∙ c.loop-post.invariant.kept.tally;
  };
  rest = record {
    cache = c.carry_from.ensures.rest.cache ∙ c.loop-post.invariant.rest.cache;
    tap = c.carry_from.ensures.rest.tap ∙ c.loop-post.invariant.rest.tap;
  };
  same = same_more _ _ _ c.loop-post.post-index _ c.post-item.result c.loop-post.invariant.same
      c.carry_from.ensures.same;
  callers = All-set (λ p. p.caller.cache ≡ c.args.first.now.cache) c.loop-post.others
      c.loop-post.post-index c.carry_from.new.post (c.carry_from.ensures.of ∙ c.loop-post.invariant.rest.cache)
      c.loop-post.invariant.callers;
  so_far = gathered_more _ c.loop-post.post-index _ _ c.loop-post.invariant.so_far
      c.carry_from.ensures.kept.seen
      (subst (λ (t : Sight). SeesNoLess t.seen c.carry_from.new.to.pass.view.seen)
      (sym (sight_is _ c.loop-post.others _ c.loop-post.post-index c.post-item.result
      (omega (arith, c.loop-post.auto.others, c.loop-post-test.true))
      c.loop-post.invariant.same)) c.in_ok-carry_from.ensures.ok);
}

pub returns-in_err-carry_from-clause-same : goal.returns-in_err-carry_from-clause-same
returns-in_err-carry_from-clause-same g c =
    same_more _ _ _ c.loop-post.post-index _ c.post-item.result c.loop-post.invariant.same
    c.carry_from.ensures.same

pub returns-in_err-carry_from-clause-callers : goal.returns-in_err-carry_from-clause-callers
returns-in_err-carry_from-clause-callers g c =
    All-set (λ p. p.caller.cache ≡ c.args.first.now.cache) c.loop-post.others
    c.loop-post.post-index c.carry_from.new.post (c.carry_from.ensures.of ∙ c.loop-post.invariant.rest.cache) c.loop-post.invariant.callers

pub returns-clause-ok : goal.returns-clause-ok
returns-clause-ok g c =
    all_at (λ (t : Sight). SeesNoLess t.seen c.loop-post.first.pass.view.seen) _
    (λ w low. c.loop-post.invariant.so_far w
    (let few = rw length-map at low in omega (arith, few, c.loop-post-test.false)))
