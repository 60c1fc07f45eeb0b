-- A new microcache has no item.
use Rattle.micro.proofs.ItemLemmas.{recent_none}
use Rattle.micro.proofs.PlaceLemmas.{micro_none}
use Rattle.micro.proofs.micro.Micro.new.Goals as goal

pub invariant_of-result : goal.invariant_of-result
invariant_of-result g c = micro_none g.P.Keyed.own_key

pub returns-clause-latest : goal.returns-clause-latest
returns-clause-latest g c = recent_none g.P.Keyed.own_key
