-- The tile that is kept is that of the key, and its slot has the key and one pin more.
use Rattle.std.proofs.Common.{ap, sym, ◌∙◌}
use Rattle.std.specs.Arc.{arc_value}
use Rattle.tile_store.specs.Keys.{slot_of}
use Rattle.tile_store.specs.Tag.{cut_of}
use Rattle.shard_gate.proofs.TileLemmas.{kept_is}
use Rattle.shard_gate.proofs.SlotLemmas.{inserts_slot}
use Rattle.shard_gate.proofs.work.insert_in.Goals as goal

pub returns-clause-ok : goal.returns-clause-ok
returns-clause-ok g c = λ tag lawful fits.
    kept_is g.W.World.files (cut_of tag) c.args.tile (arc_value c.in_ok-tile.tile)
    c.args.shard.now.entries lawful.cells fits c.in_ok-tile.ensures.kept.value c.in_ok-tile.ensures.kept.keyed

pub returns-clause-words : goal.returns-clause-words
returns-clause-words g c =
    inserts_slot c.args.shard.now c.insert_pin.new.self c.requires.slots c.args.tile _
    c.slot_in-slot.result c.tiles.ensures.slots
    (ap (λ k. slot_of k c.insert_pin.new.self.slots) (sym c.key-key.ensures.value)
    ∙ c.slot_in-slot.ensures.value)
    c.in_ok-tile.ensures.entries c.in_ok-tile.ensures.slots c.in_ok-tile.ensures.pinned
    c.tiles-slots.ensures.valid.distinct c.tiles.ensures.valid.distinct
