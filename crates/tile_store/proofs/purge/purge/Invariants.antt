use Rattle.std.proofs.Common.{◌-◌, length}
use Rattle.tile_store.specs.Slots.{EmptiesSlots}
use Rattle.tile_store.proofs.PurgeLemmas.{Turning}
use Rattle.tile_store.proofs.purge.purge.Given as goal

abbrev pub invariant-around : goal.invariant-around
invariant-around g l =
    Turning l.file l.below (length l.fn.order.entries - l._turn) l.bytes l.fn.order.entries l.order.entries
    × EmptiesSlots l.fn.order l.order
