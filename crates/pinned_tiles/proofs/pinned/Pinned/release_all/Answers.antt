-- One step more, after those so far.
use Rattle.std.proofs.Common.{rules, arith}
use Rattle.std.proofs.lemmas.Grind.{common_steps}
use Rattle.pinned_tiles.proofs.VisitLemmas.{visits_round}
use Rattle.pinned_tiles.proofs.pinned.Pinned.release_all.Goals as goal

pub returns-in_err-release_hand-clause-visits : goal.returns-in_err-release_hand-clause-visits
returns-in_err-release_hand-clause-visits g c =
    visits_round c.args.gate.now c.args.self.now.seat c.holds.self.seat c.take_hold.new.self.seat
    c.release_hand.new.self.seat c.holds.invariant.visits c.take_hold.ensures.seat
    c.release_hand.ensures.visits

pub holds-preserved : goal.holds-preserved
holds-preserved g c = record {
  hand = search rules;
  recent = search rules;
  gate = search rules;
  part = grind (arith, common_steps);
  are = search rules;
  same = search rules;
  visits =
      visits_round c.args.gate.now c.args.self.now.seat c.holds.self.seat
      c.take_hold.new.self.seat c.release_hand.new.self.seat c.holds.invariant.visits
      c.take_hold.ensures.seat c.release_hand.ensures.visits;
}
