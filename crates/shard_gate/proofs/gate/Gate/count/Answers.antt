-- What a visit to one shard leaves of the seat, and what it answers.
use Rattle.std.proofs.Common.{subst, ℕ, arith}
use Rattle.shard_gate.specs.Given.{Counts}
use Rattle.shard_gate.proofs.VisitLemmas.{same_pins, seat_same, at_shard, same_seat, if_ok, on_err}
use Rattle.shard_gate.specs.Everyone.{ArePinsOfAll, taken_last}
use Rattle.shard_gate.proofs.VisitLemmas.{on_ok, finds_all}
use Rattle.shard_gate.proofs.VisitLemmas.{tag_here, share_here, passes_here}
use Rattle.shard_gate.proofs.OwnLemmas.{own_here, permits_here}
use Rattle.shard_gate.proofs.gate.Gate.count.Goals as goal

pub invariant_of-p : goal.invariant_of-p
invariant_of-p g c = seat_same
    c.p.inside.seats.items c.p.inside.permits c.args.p.now c.p.view_is c.args.self.now.id
    c.requires.gate c.args.shard
    c.requires.shard c.index_mut.result.now c.count.new.seat _ c.index_mut.ensures.value
    c.p.invariant c.count.ensures.seat c.count.ensures.pins

pub returns-clause-same : goal.returns-clause-same
returns-clause-same g c = same_pins
    c.p.inside.seats.items c.p.inside.permits c.args.p.now c.p.view_is c.args.self.now.id
    c.requires.gate c.args.shard
    c.requires.shard c.index_mut.result.now c.count.new.seat _ c.index_mut.ensures.value
    c.count.ensures.seat c.count.ensures.pins

pub returns-clause-lawful : goal.returns-clause-lawful
returns-clause-lawful g c = if_ok c.count.result _ _
    (λ count counted. at_shard
    c.p.inside.seats.items c.p.inside.permits c.args.p.now c.p.view_is c.args.self.now.id
    c.requires.gate c.args.shard
    c.requires.shard c.index_mut.result.now c.count.new.seat _ c.index_mut.ensures.value
    (Counts g.W.World.files _ count)
    (subst (λ (tag : ℕ). Counts g.W.World.files tag count c.index_mut.result.now.visits
    c.count.new.seat.visits)
    (tag_here c.self.inside.tables.items c.self.inside.share c.self.inside.cut
    c.self.inside.passes c.args.self.now c.self.view_is c.self.invariant c.args.shard
    c.requires.shard c.index.result.now _ c.index.ensures) counted))
    c.count.ensures.ok

pub returns-clause-own : goal.returns-clause-own
returns-clause-own g c = if_ok c.count.result _ _
    (λ count own. omega (
      arith,
      own,
      own_here c.p.inside.seats.items c.p.inside.permits c.args.p.now c.p.view_is c.args.self.now.id
          c.requires.gate c.args.shard c.requires.shard c.index_mut.result.now _
          c.index_mut.ensures.value c.p.invariant,
    ))
    c.count.ensures.own

pub returns-clause-alone : goal.returns-clause-alone
returns-clause-alone g c = if_ok c.count.result _ _
    (λ count alone all. omega (
      arith,
      alone (omega (
        arith,
        all,
        permits_here c.p.inside.seats.items c.p.inside.permits c.args.p.now c.p.view_is
            c.args.self.now.id c.requires.gate c.args.shard c.requires.shard c.index_mut.result.now _
            c.index_mut.ensures.value c.p.invariant,
        passes_here c.self.inside.tables.items c.self.inside.share c.self.inside.cut
            c.self.inside.passes c.args.self.now c.self.view_is c.self.invariant c.args.shard
            c.requires.shard c.index.result.now _ c.index.ensures,
      )),
      own_here c.p.inside.seats.items c.p.inside.permits c.args.p.now c.p.view_is c.args.self.now.id
          c.requires.gate c.args.shard c.requires.shard c.index_mut.result.now _
          c.index_mut.ensures.value c.p.invariant,
    ))
    c.count.ensures.alone

pub returns-clause-err : goal.returns-clause-err
returns-clause-err g c = on_err c.count.result _ _
    (same_seat
    c.p.inside.seats.items c.p.inside.permits c.args.p.now c.p.view_is c.args.self.now.id
    c.requires.gate c.args.shard
    c.requires.shard c.index_mut.result.now c.count.new.seat _ c.index_mut.ensures.value)
    c.count.ensures.err

pub count-requires-clause-share : goal.count-requires-clause-share
count-requires-clause-share g c =
    share_here c.self.inside.tables.items c.self.inside.share c.self.inside.cut
    c.self.inside.passes c.args.self.now c.self.view_is c.self.invariant c.args.shard
    c.requires.shard c.index.result.now _ c.index.ensures

pub returns-clause-everyone : goal.returns-clause-everyone
returns-clause-everyone g c = on_ok c.count.result _ _
    (λ everyone.
    let seats = c.p.inside.seats.items in
    let here = at_shard seats c.p.inside.permits c.args.p.now c.p.view_is c.args.self.now.id
    c.requires.gate c.args.shard
    c.requires.shard c.index_mut.result.now c.count.new.seat _ c.index_mut.ensures.value
    (λ before after. ArePinsOfAll c.index_mut.result.now.pins (taken_last after)) everyone in
    finds_all seats c.p.inside.permits c.args.p.now c.p.view_is c.args.self.now.id
    c.requires.gate c.args.shard
    c.requires.shard c.index_mut.result.now c.count.new.seat _ c.index_mut.ensures.value
    c.p.invariant _ here.here)
    c.count.ensures.everyone
