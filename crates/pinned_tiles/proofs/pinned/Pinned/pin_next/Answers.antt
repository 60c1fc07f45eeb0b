-- The steps of the call, one after another.
use Rattle.shard_gate.proofs.SinceLemmas.{purges_none_chain}
use Rattle.pinned_tiles.proofs.VisitLemmas.{if_missed}
use Rattle.pinned_tiles.proofs.pinned.Pinned.pin_next.Goals as goal

pub returns-clause-visits : goal.returns-clause-visits
returns-clause-visits g c =
    purges_none_chain c.args.gate.now c.args.self.now.seat c.release_hand.new.self.seat
    c.pin.new.self.seat c.release_hand.ensures.visits c.pin.ensures.visits

pub returns-clause-missed : goal.returns-clause-missed
returns-clause-missed g c =
    if_missed c.args.gate.now c.args.key c.args.self.now.seat c.release_hand.new.self.seat
    c.pin.new.self.seat c.pin.result c.release_hand.ensures.visits c.pin.ensures.missed
