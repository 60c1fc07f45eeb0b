-- The steps of the call, one after another.
use Rattle.pinned_tiles.proofs.VisitLemmas.{visits_round}
use Rattle.pinned_tiles.proofs.pinned.Pinned.release_hold.Goals as goal

pub returns-clause-visits : goal.returns-clause-visits
returns-clause-visits g c =
    visits_round c.args.gate.now c.args.self.now.seat c.release_hand.new.self.seat
    c.take_hold_at.new.self.seat c.try_hand.new.self.seat c.release_hand.ensures.visits
    c.take_hold_at.ensures.seat c.try_hand.ensures.visits
