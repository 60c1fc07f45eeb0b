-- The item that is found is the latest.
use Rattle.std.proofs.Common.{sym, ◌∙◌}
use Rattle.micro.proofs.PlaceLemmas.{recent_first, recent_second, micro_moved}
use Rattle.micro.proofs.micro.Micro.find.Goals as goal

pub returns-then-is_of-clause-latest : goal.returns-then-is_of-clause-latest
returns-then-is_of-clause-latest g c = λ asked were _.
    let here = sym c.is_of.ensures ∙ c.if-is_of.true in
    rw (← c.self.view_is) (recent_first g.P.Keyed.own_key c.args.key c.self.inside.first
    c.self.inside.second c.self.invariant asked here (rw (← c.self.view_is) at were))

pub invariant_of-self : goal.invariant_of-self
invariant_of-self g c =
    let elsewhere = sym c.is_of.ensures ∙ c.if-is_of.false in
    let here = sym c.is_of-2.ensures ∙ c.if-not-is_of.false in
    rw (c.swap.ensures.x_after, c.swap.ensures.y_after)
    (micro_moved g.P.Keyed.own_key c.args.key c.self.inside.first c.self.inside.second
    c.self.invariant elsewhere here)

pub returns-clause-latest : goal.returns-clause-latest
returns-clause-latest g c = λ asked were _.
    let elsewhere = sym c.is_of.ensures ∙ c.if-is_of.false in
    let here = sym c.is_of-2.ensures ∙ c.if-not-is_of.false in
    rw (c.swap.ensures.x_after, c.swap.ensures.y_after)
    (recent_second g.P.Keyed.own_key c.args.key c.self.inside.first c.self.inside.second
    c.self.invariant elsewhere here asked (rw (← c.self.view_is) at were))
