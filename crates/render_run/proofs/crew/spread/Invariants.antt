-- The workers so far see what the pass has seen.
use Rattle.std.proofs.Common.{ℕ, ◌<◌}
use Rattle.caller.specs.Caller.{KeepsAllButPass}
use Rattle.render_run.specs.Around.{sight_at}
use Rattle.render_run.specs.Answering.{SeesNoLess}
use Rattle.render_run.specs.Crew.{GivesOn, SeeNoLess}
use Rattle.render_run.specs.Posts.{AreCallersOf, sights_of}
use Rattle.render_run.proofs.crew.spread.Given as goal

abbrev pub invariant-loop-post : goal.invariant-loop-post
invariant-loop-post g l = record {
  gives : GivesOn l.fn.first.pass l.first.pass;
  rest : KeepsAllButPass l.fn.first l.first;
  kept : SeeNoLess (sights_of g.T.Tap.state l.initial.others) (sights_of g.T.Tap.state l.others);
  callers : AreCallersOf l.fn.first.cache l.others;
  so_far : (w : ℕ) → w < l.post-index
      → SeesNoLess l.fn.first.pass.view.seen (sight_at (sights_of g.T.Tap.state l.others) w).seen;
}
