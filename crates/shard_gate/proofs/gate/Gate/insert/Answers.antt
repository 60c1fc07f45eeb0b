-- What a visit to one shard leaves of the seat, and what it answers.
use Rattle.std.proofs.Common.{◌∷◌, ℕ, subst, sym, ap, ◌∙◌, IfOk}
use Rattle.std.specs.Arc.{arc_value}
use Rattle.tiff_format.specs.declared.cut.Cut.{Cut}
use Rattle.tile_store.specs.Lawful.{FitsCut}
use Rattle.shard_gate.specs.Gate.{IsTileOf, slots_of}
use Rattle.shard_gate.specs.Given.{Inserts}
use Rattle.shard_gate.specs.Calls.{IfNotInserted}
use Rattle.shard_gate.proofs.VisitLemmas.{same_pins, one_pin_more, seat_inserted, at_key, if_ok, if_err}
use Rattle.shard_gate.proofs.VisitLemmas.{on_ok, on_err, cut_here, passes_here, room_here}
use Rattle.shard_gate.proofs.gate.Gate.insert.Goals as goal

pub insert-requires-clause-room : goal.insert-requires-clause-room
insert-requires-clause-room g c = room_here
    c.p.inside.seats.items c.p.inside.permits c.args.p.now c.p.view_is c.args.self.now.id
    c.requires.gate c.shard_of-shard.result
    c.shard_of-shard.ensures.low c.index_mut.result.now c.index_mut.result.now _ c.index_mut.ensures.value
    c.p.invariant c.requires.room

pub invariant_of-p : goal.invariant_of-p
invariant_of-p g c = seat_inserted
    c.p.inside.seats.items c.p.inside.permits c.args.p.now c.p.view_is c.args.self.now.id
    c.requires.gate c.shard_of-shard.result
    c.shard_of-shard.ensures.low c.index_mut.result.now c.insert.new.seat _ c.index_mut.ensures.value
    c.args.key c.insert.result c.shard_of-shard.ensures.value c.p.invariant c.requires.room
    c.insert.ensures.seat
    (on_ok c.insert.result _ _ (λ more. more ∙ ap (λ (n : ℕ). n ∷ c.index_mut.result.now.pins) c.requires.key)
    c.insert.ensures.pinned)
    c.insert.ensures.same

pub returns-clause-pinned : goal.returns-clause-pinned
returns-clause-pinned g c = on_ok c.insert.result _ _
    (λ more. one_pin_more
    c.p.inside.seats.items c.p.inside.permits c.args.p.now c.p.view_is c.args.self.now.id
    c.requires.gate c.shard_of-shard.result
    c.shard_of-shard.ensures.low c.index_mut.result.now c.insert.new.seat _ c.index_mut.ensures.value
    c.args.key c.insert.ensures.seat
    (more ∙ ap (λ (n : ℕ). n ∷ c.index_mut.result.now.pins) c.requires.key))
    c.insert.ensures.pinned

pub returns-clause-err : goal.returns-clause-err
returns-clause-err g c = on_err c.insert.result _ _
    (same_pins
    c.p.inside.seats.items c.p.inside.permits c.args.p.now c.p.view_is c.args.self.now.id
    c.requires.gate c.shard_of-shard.result
    c.shard_of-shard.ensures.low c.index_mut.result.now c.insert.new.seat _ c.index_mut.ensures.value
    c.insert.ensures.seat)
    c.insert.ensures.same

pub returns-clause-visits : goal.returns-clause-visits
returns-clause-visits g c = if_ok c.insert.result _ _
    (λ kept inserted. at_key
    c.p.inside.seats.items c.p.inside.permits c.args.p.now c.p.view_is c.args.self.now.id
    c.requires.gate c.shard_of-shard.result
    c.shard_of-shard.ensures.low c.index_mut.result.now c.insert.new.seat _ c.index_mut.ensures.value
    _ c.shard_of-shard.ensures.value
    (Inserts (slots_of c.args.self.now.passes) c.args.tile (arc_value kept))
    (subst (λ (n : ℕ). Inserts (slots_of n) c.args.tile (arc_value kept)
    c.index_mut.result.now.visits c.insert.new.seat.visits)
    (passes_here c.self.inside.tables.items c.self.inside.share c.self.inside.cut
    c.self.inside.passes c.args.self.now c.self.view_is c.self.invariant c.shard_of-shard.result
    c.shard_of-shard.ensures.low c.index.result.now _ c.index.ensures) inserted))
    c.insert.ensures.ok

pub returns-clause-refused : goal.returns-clause-refused
returns-clause-refused g c = if_err c.insert.result _ _
    (λ e. at_key
    c.p.inside.seats.items c.p.inside.permits c.args.p.now c.p.view_is c.args.self.now.id
    c.requires.gate c.shard_of-shard.result
    c.shard_of-shard.ensures.low c.index_mut.result.now c.insert.new.seat _ c.index_mut.ensures.value
    _ c.shard_of-shard.ensures.value (IfNotInserted e))
    c.insert.ensures.err

pub returns-clause-ok : goal.returns-clause-ok
returns-clause-ok g c =
    subst (λ (cut : Cut). IfOk c.insert.result
    (λ kept. IsTileOf g.W.World.files cut c.args.tile.key (arc_value kept)))
    (cut_here c.self.inside.tables.items c.self.inside.share c.self.inside.cut
    c.self.inside.passes c.args.self.now c.self.view_is c.self.invariant c.shard_of-shard.result
    c.shard_of-shard.ensures.low c.index.result.now _ c.index.ensures)
    c.insert.ensures.some

pub insert-requires-clause-fits : goal.insert-requires-clause-fits
insert-requires-clause-fits g c =
    subst (λ (cut : Cut). FitsCut g.W.World.files cut c.args.tile)
    (sym (cut_here c.self.inside.tables.items c.self.inside.share c.self.inside.cut
    c.self.inside.passes c.args.self.now c.self.view_is c.self.invariant c.shard_of-shard.result
    c.shard_of-shard.ensures.low c.index.result.now _ c.index.ensures))
    c.requires.fits
