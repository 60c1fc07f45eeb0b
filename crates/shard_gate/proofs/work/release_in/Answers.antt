-- The slot has one pin less, and only unpinned tiles were removed.
use Rattle.std.proofs.Common.{◌≤◌}
use Rattle.tile_store.specs.CachedTile.{EntryState, entry_at}
use Rattle.tile_store.proofs.PinLemmas.{some_entry}
use Rattle.shard_gate.proofs.LeaveLemmas.{behind_release}
use Rattle.shard_gate.proofs.work.release_in.Goals as goal

pub returns-clause-behind : goal.returns-clause-behind
returns-clause-behind g c =
    let entry = some_entry (entry_at c.args.key c.args.shard.now.entries)
    (λ (e : EntryState). 1 ≤ e.pins) c.requires.pin in
    behind_release c.args.shard.now c.release.new.self c.requires.slots c.args.key
    c.slot_in-slot.result entry.0 c.slot_in-slot.ensures.value entry.1 entry.2
    c.tiles-2.ensures.slots c.requires.left c.release.ensures.slots
    c.tiles.ensures.valid.distinct c.tiles-2.ensures.valid.distinct
    c.release.ensures.pinned
