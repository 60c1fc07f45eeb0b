-- Nothing is in hand nor in the microcache, and there is one hold less each time.
use Rattle.std.proofs.Common.{◌≡◌, None, [], length}
use Rattle.shard_gate.specs.Since.{PurgesNone}
use Rattle.pinned_tiles.specs.Pinned.{ArePinned, LeavesPart, PinsAt, SameSeat}
use Rattle.pinned_tiles.proofs.pinned.Pinned.release_all.Given as goal

abbrev pub invariant-holds : goal.invariant-holds
invariant-holds g l = record {
  hand : l.self.hand ≡ None;
  recent : l.self.recent ≡ [];
  gate : PinsAt l.gate l.self;
  part : LeavesPart l.fn.self l.self;
  are : ArePinned g.W.World.files l.self;
  same : SameSeat l.fn.self l.self;
  visits : PurgesNone l.gate l.fn.self.seat l.self.seat;
}

abbrev pub decreases-holds : goal.decreases-holds
decreases-holds g l = length l.self.holds
