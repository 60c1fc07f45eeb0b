-- The item that is placed is the latest.
use Rattle.micro.proofs.PlaceLemmas.{micro_placed, recent_placed}
use Rattle.micro.proofs.micro.Micro.place.Goals as goal

pub invariant_of-self : goal.invariant_of-self
invariant_of-self g c =
    rw (c.replace.ensures.after, c.replace-second.ensures.after, c.replace-second.ensures.value)
    (micro_placed g.P.Keyed.own_key c.args.p c.self.inside.first c.self.inside.second
    c.self.invariant (rw (← c.self.view_is) at c.requires))

pub returns-clause-latest : goal.returns-clause-latest
returns-clause-latest g c = λ asked were.
    rw (c.replace.ensures.after, c.replace-second.ensures.after, c.replace-second.ensures.value)
    (recent_placed g.P.Keyed.own_key c.args.p c.self.inside.first c.self.inside.second
    c.self.invariant (rw (← c.self.view_is) at c.requires) asked (rw (← c.self.view_is) at were))
