use Rattle.std.proofs.Common.{◌≤◌, ◌-◌, length}
use Rattle.render_run.specs.Around.{setup_of, terms_of}
use Rattle.answer_page.specs.Page.{sink_of}
use Rattle.render_run.specs.Answering.{SoFar}
use Rattle.render_run.specs.Posts.{AreCallersOf, progress_by, sights_of}
use Rattle.render_run.proofs.answering.answer_rounds.Given as goal

-- some first rounds are answered
abbrev pub invariant-rounds : goal.invariant-rounds
invariant-rounds g l = record {
  so_far : SoFar (setup_of g.F.W.World.files (g.F.Folder.state l.folder)
      (terms_of l.setting.cache.now.gate) (length l.initial.posts)) l.requests l.done
      (sights_of g.F.Tap.Tap.state l.posts)
      (progress_by g.F.Tap.Tap.state l.initial.posts (sink_of g.O.Sink l.initial.out))
      (progress_by g.F.Tap.Tap.state l.posts (sink_of g.O.Sink l.out)) l.page l.refused;
  within : l.done ≤ length l.requests;
  few : l.refused ≤ l.done;
  callers : AreCallersOf l.setting.cache.now l.posts;
}

abbrev pub decreases-rounds : goal.decreases-rounds
decreases-rounds g l = length l.requests - l.done
