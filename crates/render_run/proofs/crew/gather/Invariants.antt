-- What the workers so far have seen, the pass has seen.
use Rattle.std.proofs.Common.{◌≡◌, ℕ, ◌<◌}
use Rattle.caller.specs.Caller.{KeepsAllButPass}
use Rattle.render_run.specs.Around.{sight_at}
use Rattle.render_run.specs.Answering.{SeesNoLess}
use Rattle.render_run.specs.Crew.{SeesOn}
use Rattle.render_run.specs.Posts.{AreCallersOf, sights_of}
use Rattle.render_run.proofs.crew.gather.Given as goal

abbrev pub invariant-loop-post : goal.invariant-loop-post
invariant-loop-post g l = record {
  kept : SeesOn l.fn.first.pass l.first.pass;
  rest : KeepsAllButPass l.fn.first l.first;
  same : sights_of g.T.Tap.state l.others ≡ sights_of g.T.Tap.state l.initial.others;
  callers : AreCallersOf l.fn.first.cache l.others;
  so_far : (w : ℕ) → w < l.post-index
      → SeesNoLess (sight_at (sights_of g.T.Tap.state l.initial.others) w).seen l.first.pass.view.seen;
}
