-- What a visit to one shard leaves of the seat, and what it answers.
use Rattle.std.proofs.Common.{ℕ, subst, ap}
use Rattle.shard_gate.specs.Gate.{GateState}
use Rattle.shard_gate.specs.Given.{Releases}
use Rattle.shard_gate.proofs.VisitLemmas.{one_pin_less, seat_released, at_key, same_seat, on_ok, on_err}
use Rattle.shard_gate.proofs.VisitLemmas.{share_here, held_here}
use Rattle.shard_gate.proofs.gate.Gate.release.Goals as goal

pub invariant_of-p : goal.invariant_of-p
invariant_of-p g c = seat_released
    c.p.inside.seats.items c.p.inside.permits c.args.p.now c.p.view_is c.args.self.now.id
    c.requires.gate c.shard_of-shard.result
    c.shard_of-shard.ensures.low c.index_mut.result.now c.release.new.seat _ c.index_mut.ensures.value
    c.args.key c.release.result c.p.invariant c.release.ensures.seat c.release.ensures.pins
    c.release.ensures.err

pub returns-clause-ok : goal.returns-clause-ok
returns-clause-ok g c = on_ok c.release.result _ _
    (one_pin_less
    c.p.inside.seats.items c.p.inside.permits c.args.p.now c.p.view_is c.args.self.now.id
    c.requires.gate c.shard_of-shard.result
    c.shard_of-shard.ensures.low c.index_mut.result.now c.release.new.seat _ c.index_mut.ensures.value
    c.args.key c.release.ensures.seat)
    c.release.ensures.pins

pub returns-clause-visits : goal.returns-clause-visits
returns-clause-visits g c = on_ok c.release.result _ _
    (λ released. at_key
    c.p.inside.seats.items c.p.inside.permits c.args.p.now c.p.view_is c.args.self.now.id
    c.requires.gate c.shard_of-shard.result
    c.shard_of-shard.ensures.low c.index_mut.result.now c.release.new.seat _ c.index_mut.ensures.value
    _ c.shard_of-shard.ensures.value (Releases c.args.self.now.share c.args.key)
    (subst (λ (share : ℕ). Releases share c.args.key c.index_mut.result.now.visits
    c.release.new.seat.visits) (ap (λ (a : GateState). a.share) c.self.view_is) released))
    c.release.ensures.ok

pub returns-clause-err : goal.returns-clause-err
returns-clause-err g c = on_err c.release.result _ _
    (same_seat
    c.p.inside.seats.items c.p.inside.permits c.args.p.now c.p.view_is c.args.self.now.id
    c.requires.gate c.shard_of-shard.result
    c.shard_of-shard.ensures.low c.index_mut.result.now c.release.new.seat _ c.index_mut.ensures.value)
    c.release.ensures.err

pub release-requires-clause-share : goal.release-requires-clause-share
release-requires-clause-share g c =
    share_here c.self.inside.tables.items c.self.inside.share c.self.inside.cut
    c.self.inside.passes c.args.self.now c.self.view_is c.self.invariant c.shard_of-shard.result
    c.shard_of-shard.ensures.low c.index.result.now _ c.index.ensures

pub release-requires-clause-made : goal.release-requires-clause-made
release-requires-clause-made g c = held_here
    c.p.inside.seats.items c.p.inside.permits c.args.p.now c.p.view_is c.args.self.now.id
    c.requires.gate c.shard_of-shard.result
    c.shard_of-shard.ensures.low c.index_mut.result.now c.index_mut.result.now _ c.index_mut.ensures.value
    c.args.key c.shard_of-shard.ensures.value c.p.invariant c.requires.made
