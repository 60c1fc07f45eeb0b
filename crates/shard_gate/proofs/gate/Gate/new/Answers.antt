-- The first seat is one of the gate.
use Rattle.shard_gate.proofs.NewLemmas.{first_kept, first_seat_is}
use Rattle.shard_gate.proofs.gate.Gate.new.Goals as goal

pub invariant_of-seat : goal.invariant_of-seat
invariant_of-seat g c =
    first_kept c.in-Ok.tables.items c.in-Ok.seats.items c.args.passes c.in-Ok.ensures.seats
    c.args.budget c.args.shards _ c.args.cut c.requires c.in-Ok.ensures.made c.in-Ok.ensures.count

pub returns-clause-seat : goal.returns-clause-seat
returns-clause-seat g c =
    first_seat_is c.in-Ok.tables.items c.in-Ok.seats.items c.args.passes c.in-Ok.ensures.seats _
    c.args.cut
