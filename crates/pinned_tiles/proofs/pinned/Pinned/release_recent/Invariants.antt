-- Nothing is in hand, and the microcache has one tile less each time.
use Rattle.std.proofs.Common.{◌≡◌, None, length}
use Rattle.shard_gate.specs.Since.{PurgesNone}
use Rattle.pinned_tiles.specs.Pinned.{ArePinned, LeavesPart, PinsAt, KeepsHolds}
use Rattle.pinned_tiles.proofs.pinned.Pinned.release_recent.Given as goal

abbrev pub invariant-tiles : goal.invariant-tiles
invariant-tiles g l = record {
  hand : l.self.hand ≡ None;
  gate : PinsAt l.gate l.self;
  part : LeavesPart l.fn.self l.self;
  are : ArePinned g.W.World.files l.self;
  same : KeepsHolds l.fn.self l.self;
  visits : PurgesNone l.gate l.fn.self.seat l.self.seat;
}

abbrev pub decreases-tiles : goal.decreases-tiles
decreases-tiles g l = length l.self.recent
