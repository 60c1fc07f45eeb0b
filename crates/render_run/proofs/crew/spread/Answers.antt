use Rattle.std.proofs.Common.{◌≡◌, ◌∙◌, List, ℕ, refl, subst, arith}
use Rattle.std.proofs.lemmas.List.{length-map}
use Rattle.std.proofs.lemmas.List.Elements.{All-set}
use Rattle.render_run.specs.Around.{Sight}
use Rattle.render_run.specs.Answering.{SeesNoLess}
use Rattle.render_run.proofs.CrewLemmas.{all_at, gives_more, see_same, see_more_at, spread_more}
use Rattle.render_run.proofs.crew.spread.Goals as goal

pub loop-post-init : goal.loop-post-init
loop-post-init g c = record {
  gives = record { seen = refl; permits = refl; holds = refl; tally = refl };
  rest = record { cache = refl; tap = refl };
  kept = see_same _;
  callers = c.requires;
  so_far = λ w low. absurd (omega arith);
}

pub loop-post-preserved : goal.loop-post-preserved
loop-post-preserved g c = record {
  gives = gives_more _ _ _ c.loop-post.invariant.gives c.carry_to.ensures.gives;
  rest = record {
    cache = c.carry_to.ensures.rest.cache ∙ c.loop-post.invariant.rest.cache;
    tap = c.carry_to.ensures.rest.tap ∙ c.loop-post.invariant.rest.tap;
  };
  kept = see_more_at _ _ c.loop-post.others c.loop-post.post-index _ c.post-item.result
      (omega (arith, c.loop-post.auto.others, c.loop-post-test.true)) c.carry_to.ensures.kept
      c.loop-post.invariant.kept;
  callers = All-set (λ p. p.caller.cache ≡ c.args.first.now.cache) c.loop-post.others
      c.loop-post.post-index c.carry_to.new.post (c.carry_to.ensures.of ∙ c.loop-post.invariant.rest.cache)
      c.loop-post.invariant.callers;
  so_far = spread_more _ c.args.first.now.pass.view.seen c.loop-post.others c.loop-post.post-index _
      (omega (arith, c.loop-post.auto.others, c.loop-post-test.true))
      c.loop-post.invariant.so_far
      (subst (λ (seen : List ℕ). SeesNoLess seen c.carry_to.new.post.caller.pass.view.seen)
      c.loop-post.invariant.gives.seen c.in_ok-carry_to.ensures.ok);
}

pub returns-in_err-carry_to-clause-gives : goal.returns-in_err-carry_to-clause-gives
returns-in_err-carry_to-clause-gives g c =
    gives_more _ _ _ c.loop-post.invariant.gives c.carry_to.ensures.gives

pub returns-in_err-carry_to-clause-kept : goal.returns-in_err-carry_to-clause-kept
returns-in_err-carry_to-clause-kept g c =
    see_more_at _ _ c.loop-post.others c.loop-post.post-index _ c.post-item.result
    (omega (arith, c.loop-post.auto.others, c.loop-post-test.true)) c.carry_to.ensures.kept
    c.loop-post.invariant.kept

pub returns-in_err-carry_to-clause-callers : goal.returns-in_err-carry_to-clause-callers
returns-in_err-carry_to-clause-callers g c =
    All-set (λ p. p.caller.cache ≡ c.args.first.now.cache) c.loop-post.others
    c.loop-post.post-index c.carry_to.new.post (c.carry_to.ensures.of ∙ c.loop-post.invariant.rest.cache)
    c.loop-post.invariant.callers

pub returns-clause-ok : goal.returns-clause-ok
returns-clause-ok g c =
    all_at (λ (t : Sight). SeesNoLess c.args.first.now.pass.view.seen t.seen) _
    (λ w low. c.loop-post.invariant.so_far w
    (let few = rw length-map at low in
    omega (arith, few, c.loop-post.auto.others, c.loop-post-test.false)))
