-- What a visit to one shard leaves of the seat, and what it answers.
use Rattle.shard_gate.specs.Given.{Purges}
use Rattle.shard_gate.proofs.VisitLemmas.{same_pins, seat_same, at_shard, same_seat, on_ok, on_err}
use Rattle.shard_gate.proofs.gate.Gate.purge_shard.Goals as goal

pub invariant_of-p : goal.invariant_of-p
invariant_of-p g c = seat_same
    c.p.inside.seats.items c.p.inside.permits c.args.p.now c.p.view_is c.args.self.now.id
    c.requires.gate c.args.shard
    c.requires.shard c.index_mut.result.now c.purge.new.seat _ c.index_mut.ensures.value
    c.p.invariant c.purge.ensures.seat c.purge.ensures.pins

pub returns-clause-same : goal.returns-clause-same
returns-clause-same g c = same_pins
    c.p.inside.seats.items c.p.inside.permits c.args.p.now c.p.view_is c.args.self.now.id
    c.requires.gate c.args.shard
    c.requires.shard c.index_mut.result.now c.purge.new.seat _ c.index_mut.ensures.value
    c.purge.ensures.seat c.purge.ensures.pins

pub returns-clause-visits : goal.returns-clause-visits
returns-clause-visits g c = on_ok c.purge.result _ _
    (at_shard
    c.p.inside.seats.items c.p.inside.permits c.args.p.now c.p.view_is c.args.self.now.id
    c.requires.gate c.args.shard
    c.requires.shard c.index_mut.result.now c.purge.new.seat _ c.index_mut.ensures.value
    (Purges c.args.stale.file c.args.stale.below))
    c.purge.ensures.ok

pub returns-clause-err : goal.returns-clause-err
returns-clause-err g c = on_err c.purge.result _ _
    (same_seat
    c.p.inside.seats.items c.p.inside.permits c.args.p.now c.p.view_is c.args.self.now.id
    c.requires.gate c.args.shard
    c.requires.shard c.index_mut.result.now c.purge.new.seat _ c.index_mut.ensures.value)
    c.purge.ensures.err
