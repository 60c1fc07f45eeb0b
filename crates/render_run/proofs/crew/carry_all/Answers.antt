use Rattle.std.proofs.Common.{◌≡◌, ◌∙◌, length, ap, refl, sym, suc, arith}
use Rattle.std.proofs.lemmas.List.Elements.{All-cons}
use Rattle.render_run.specs.Around.{source_of_tap}
use Rattle.render_run.specs.Posts.{sight}
use Rattle.render_run.proofs.CrewLemmas.{carry_kept, carry_ok, see_same}
use Rattle.render_run.proofs.crew.carry_all.Goals as goal

pub returns-in_err-gather-clause-kept : goal.returns-in_err-gather-clause-kept
returns-in_err-gather-clause-kept g c =
    carry_kept _ (sight g.T.Tap.state c.in-Some.first.now.caller)
    (sight g.T.Tap.state c.gather.new.first) _ _ _
    c.gather.new.first.pass.view.seen (rw c.in-Some.ensures.cases.0 refl) c.gather.ensures.same
    c.gather.ensures.kept.seen refl c.gather.ensures.kept.permits
    (ap length c.gather.ensures.kept.holds) c.gather.ensures.kept.tally
    (ap (λ t. source_of_tap (g.T.Tap.state t)) c.gather.ensures.rest.tap) (see_same _)

pub returns-clause-kept : goal.returns-clause-kept
returns-clause-kept g c =
    carry_kept _ (sight g.T.Tap.state c.in-Some.first.now.caller)
    (sight g.T.Tap.state c.spread.new.first) _ _ _
    c.gather.new.first.pass.view.seen (rw c.in-Some.ensures.cases.0 refl)
    c.gather.ensures.same c.gather.ensures.kept.seen c.spread.ensures.gives.seen
    (c.spread.ensures.gives.permits ∙ c.gather.ensures.kept.permits)
    (ap length (c.spread.ensures.gives.holds ∙ c.gather.ensures.kept.holds))
    (c.spread.ensures.gives.tally ∙ c.gather.ensures.kept.tally)
    (ap (λ t. source_of_tap (g.T.Tap.state t))
    (c.spread.ensures.rest.tap ∙ c.gather.ensures.rest.tap))
    c.spread.ensures.kept

-- the others are callers of the cache of the first
pub gather-requires : goal.gather-requires
gather-requires g c =
    let all = rw c.in-Some.ensures.cases.0 at c.requires.callers in
    λ k d lt. all (suc k) d (omega (arith, lt)) ∙ sym (all 0 c.in-Some.first.now (omega arith))

pub spread-requires : goal.spread-requires
spread-requires g c =
    λ k d lt. c.gather.ensures.callers k d lt ∙ sym c.gather.ensures.rest.cache

pub returns-in_err-gather-clause-callers : goal.returns-in_err-gather-clause-callers
returns-in_err-gather-clause-callers g c =
    let all = rw c.in-Some.ensures.cases.0 at c.requires.callers in
    let first = all 0 c.in-Some.first.now (omega arith) in
    All-cons (λ p. p.caller.cache ≡ c.args.cache.now) _ c.gather.new.others
    (c.gather.ensures.rest.cache ∙ first) (λ k d lt. c.gather.ensures.callers k d lt ∙ first)

pub returns-clause-callers : goal.returns-clause-callers
returns-clause-callers g c =
    let all = rw c.in-Some.ensures.cases.0 at c.requires.callers in
    let first = all 0 c.in-Some.first.now (omega arith) in
    All-cons (λ p. p.caller.cache ≡ c.args.cache.now) _ c.spread.new.others
    (c.spread.ensures.rest.cache ∙ c.gather.ensures.rest.cache ∙ first)
    (λ k d lt. c.spread.ensures.callers k d lt ∙ c.gather.ensures.rest.cache ∙ first)

pub returns-clause-ok : goal.returns-clause-ok
returns-clause-ok g c =
    carry_ok _ (sight g.T.Tap.state c.in-Some.first.now.caller)
    (sight g.T.Tap.state c.spread.new.first) _ _ _
    c.gather.new.first.pass.view.seen (rw c.in-Some.ensures.cases.0 refl)
    c.gather.ensures.same c.gather.ensures.kept.seen c.spread.ensures.gives.seen
    (c.spread.ensures.gives.permits ∙ c.gather.ensures.kept.permits)
    (ap length (c.spread.ensures.gives.holds ∙ c.gather.ensures.kept.holds))
    (c.spread.ensures.gives.tally ∙ c.gather.ensures.kept.tally)
    (ap (λ t. source_of_tap (g.T.Tap.state t))
    (c.spread.ensures.rest.tap ∙ c.gather.ensures.rest.tap)) c.spread.ensures.kept
    c.spread.result c.in_ok-gather.ensures.ok c.spread.ensures.ok
