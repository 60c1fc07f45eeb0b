-- The tile that is found is that of the key, and its slot has one pin more.
use Rattle.std.proofs.Common.{◌≡◌, Some, ap, sym, ◌∙◌, option_map}
use Rattle.std.specs.Arc.{arc_value}
use Rattle.tile_store.specs.CachedTile.{entry_at, tile_at}
use Rattle.tile_store.specs.Keys.{slot_of}
use Rattle.tile_store.specs.Tag.{cut_of}
use Rattle.tile_store.proofs.PinLemmas.{entry_from_tile}
use Rattle.shard_gate.proofs.TileLemmas.{found_is}
use Rattle.shard_gate.proofs.SlotLemmas.{pins_slot}
use Rattle.shard_gate.proofs.work.find_in.Goals as goal

pub returns-in-Some-clause-some : goal.returns-in-Some-clause-some
returns-in-Some-clause-some g c = λ tag lawful.
    rw c.in-Some.is at
    (found_is g.W.World.files (cut_of tag) arc_value c.args.key c.args.shard.now.entries
    c.in_ok-found.found lawful.cells c.in_ok-found.ensures.found c.in_ok-found.ensures.keyed)

pub returns-in-Some-clause-words : goal.returns-in-Some-clause-words
returns-in-Some-clause-words g c =
    let es = c.args.shard.now.entries in
    let tile : Some (arc_value c.in-Some.tile) ≡ tile_at c.args.key es =
    ap (option_map arc_value) (sym c.in-Some.is) ∙ c.in_ok-found.ensures.found in
    let entry = entry_from_tile (entry_at c.args.key es) (arc_value c.in-Some.tile) tile in
    let same = c.find_pin.ensures.slots in
    pins_slot c.args.shard.now c.find_pin.new.self c.requires.slots c.args.key c.slot_in-slot.result
    entry.0 (ap (slot_of c.args.key) (sym same.slots) ∙ c.slot_in-slot.ensures.value) same.slots
    entry.1 c.in_ok-found.ensures.entries
