-- What a visit to one shard leaves of the seat, and what it answers.
use Rattle.std.proofs.Common.{subst, IfOk, IfSome, option_map}
use Rattle.std.specs.Arc.{arc_value}
use Rattle.tiff_format.specs.declared.cut.Cut.{Cut}
use Rattle.shard_gate.specs.Gate.{IsTileOf}
use Rattle.shard_gate.specs.Given.{Finds}
use Rattle.shard_gate.specs.Calls.{IfNotPinned}
use Rattle.shard_gate.proofs.VisitLemmas.{same_pins, one_pin_more, seat_found, at_key, if_ok, if_err}
use Rattle.shard_gate.proofs.VisitLemmas.{on_err, on_some, if_none, cut_here, room_here, held_here}
use Rattle.shard_gate.proofs.gate.Gate.find.Goals as goal

pub find-requires-clause-room : goal.find-requires-clause-room
find-requires-clause-room g c = room_here
    c.p.inside.seats.items c.p.inside.permits c.args.p.now c.p.view_is c.args.self.now.id
    c.requires.gate c.shard_of-shard.result
    c.shard_of-shard.ensures.low c.index_mut.result.now c.index_mut.result.now _ c.index_mut.ensures.value
    c.p.invariant c.requires.room

pub invariant_of-p : goal.invariant_of-p
invariant_of-p g c = seat_found
    c.p.inside.seats.items c.p.inside.permits c.args.p.now c.p.view_is c.args.self.now.id
    c.requires.gate c.shard_of-shard.result
    c.shard_of-shard.ensures.low c.index_mut.result.now c.find.new.seat _ c.index_mut.ensures.value
    c.args.key c.find.result c.shard_of-shard.ensures.value c.p.invariant c.requires.room
    c.find.ensures.seat c.find.ensures.pinned c.find.ensures.none c.find.ensures.same

pub returns-clause-pinned : goal.returns-clause-pinned
returns-clause-pinned g c = if_ok c.find.result _ _
    (λ tile. on_some tile _ _ (one_pin_more
    c.p.inside.seats.items c.p.inside.permits c.args.p.now c.p.view_is c.args.self.now.id
    c.requires.gate c.shard_of-shard.result
    c.shard_of-shard.ensures.low c.index_mut.result.now c.find.new.seat _ c.index_mut.ensures.value
    c.args.key c.find.ensures.seat))
    c.find.ensures.pinned

pub returns-clause-none : goal.returns-clause-none
returns-clause-none g c = if_ok c.find.result _ _
    (λ tile. if_none tile _ _ (same_pins
    c.p.inside.seats.items c.p.inside.permits c.args.p.now c.p.view_is c.args.self.now.id
    c.requires.gate c.shard_of-shard.result
    c.shard_of-shard.ensures.low c.index_mut.result.now c.find.new.seat _ c.index_mut.ensures.value
    c.find.ensures.seat))
    c.find.ensures.none

pub returns-clause-err : goal.returns-clause-err
returns-clause-err g c = on_err c.find.result _ _
    (same_pins
    c.p.inside.seats.items c.p.inside.permits c.args.p.now c.p.view_is c.args.self.now.id
    c.requires.gate c.shard_of-shard.result
    c.shard_of-shard.ensures.low c.index_mut.result.now c.find.new.seat _ c.index_mut.ensures.value
    c.find.ensures.seat)
    c.find.ensures.same

pub returns-clause-held : goal.returns-clause-held
returns-clause-held g c = if_ok c.find.result _ _
    (λ tile held has. held (held_here
    c.p.inside.seats.items c.p.inside.permits c.args.p.now c.p.view_is c.args.self.now.id
    c.requires.gate c.shard_of-shard.result
    c.shard_of-shard.ensures.low c.index_mut.result.now c.find.new.seat _ c.index_mut.ensures.value
    c.args.key c.shard_of-shard.ensures.value c.p.invariant has))
    c.find.ensures.held

pub returns-clause-visits : goal.returns-clause-visits
returns-clause-visits g c = if_ok c.find.result _ _
    (λ tile. at_key
    c.p.inside.seats.items c.p.inside.permits c.args.p.now c.p.view_is c.args.self.now.id
    c.requires.gate c.shard_of-shard.result
    c.shard_of-shard.ensures.low c.index_mut.result.now c.find.new.seat _ c.index_mut.ensures.value
    _ c.shard_of-shard.ensures.value (Finds c.args.key (option_map arc_value tile)))
    c.find.ensures.ok

pub returns-clause-refused : goal.returns-clause-refused
returns-clause-refused g c = if_err c.find.result _ _
    (λ e. at_key
    c.p.inside.seats.items c.p.inside.permits c.args.p.now c.p.view_is c.args.self.now.id
    c.requires.gate c.shard_of-shard.result
    c.shard_of-shard.ensures.low c.index_mut.result.now c.find.new.seat _ c.index_mut.ensures.value
    _ c.shard_of-shard.ensures.value (IfNotPinned e))
    c.find.ensures.err

pub returns-clause-some : goal.returns-clause-some
returns-clause-some g c =
    subst (λ (cut : Cut). IfOk c.find.result (λ found. IfSome found
    (λ tile. IsTileOf g.W.World.files cut c.args.key (arc_value tile))))
    (cut_here c.self.inside.tables.items c.self.inside.share c.self.inside.cut
    c.self.inside.passes c.args.self.now c.self.view_is c.self.invariant c.shard_of-shard.result
    c.shard_of-shard.ensures.low c.index.result.now _ c.index.ensures)
    c.find.ensures.some
