-- What stays is such as it was.
use Rattle.micro.proofs.ItemLemmas.{recent_none}
use Rattle.micro.proofs.PlaceLemmas.{micro_none, micro_one}
use Rattle.micro.proofs.micro.Micro.take_last.Goals as goal

pub invariant_of-self : goal.invariant_of-self
invariant_of-self g c =
    rw c.take.ensures.after
    (micro_one g.P.Keyed.own_key c.self.inside.first c.self.inside.second c.self.invariant)

pub invariant_of-self-in-None : goal.invariant_of-self-in-None
invariant_of-self-in-None g c =
    rw (c.take-in-None.ensures.after, c.take.ensures.after) (micro_none g.P.Keyed.own_key)

pub returns-in-None-clause-latest : goal.returns-in-None-clause-latest
returns-in-None-clause-latest g c = λ _.
    rw (c.take-in-None.ensures.after, c.take.ensures.after) (recent_none g.P.Keyed.own_key)
