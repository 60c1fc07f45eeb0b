-- One step more, after those so far.
use Rattle.std.proofs.Common.{rules, arith}
use Rattle.std.proofs.lemmas.Grind.{common_steps}
use Rattle.pinned_tiles.proofs.VisitLemmas.{visits_round}
use Rattle.pinned_tiles.proofs.pinned.Pinned.release_recent.Goals as goal

pub returns-in_err-release_hand-2-clause-visits : goal.returns-in_err-release_hand-2-clause-visits
returns-in_err-release_hand-2-clause-visits g c =
    visits_round c.args.gate.now c.args.self.now.seat c.tiles.self.seat c.take_recent.new.self.seat
    c.release_hand-in-tiles.new.self.seat c.tiles.invariant.visits c.take_recent.ensures.seat
    c.release_hand-in-tiles.ensures.visits

pub tiles-preserved : goal.tiles-preserved
tiles-preserved g c = record {
  hand = search rules;
  gate = search rules;
  part = grind (arith, common_steps);
  are = search rules;
  same = search rules;
  visits =
      visits_round c.args.gate.now c.args.self.now.seat c.tiles.self.seat
      c.take_recent.new.self.seat c.release_hand-in-tiles.new.self.seat c.tiles.invariant.visits
      c.take_recent.ensures.seat c.release_hand-in-tiles.ensures.visits;
}
