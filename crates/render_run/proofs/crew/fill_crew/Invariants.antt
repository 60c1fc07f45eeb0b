-- Some workers are made.
use Rattle.std.proofs.Common.{◌≤◌, ◌<◌, ◌-◌, length}
use Rattle.std.specs.Arc.{arc_value}
use Rattle.render_run.specs.Crew.{MakesMore}
use Rattle.render_run.specs.Posts.{AreNew, HasPermitsAlone}
use Rattle.render_run.proofs.crew.fill_crew.Given as goal

abbrev pub invariant-posts : goal.invariant-posts
invariant-posts g l = record {
  some : 0 < length l.posts.items;
  few : length l.posts.items ≤ l.workers;
  new : AreNew g.F.Tap.Tap.state (arc_value l.cache) l.posts.items;
  alone : HasPermitsAlone l.workers l.fn.pass l.posts.items;
  made : MakesMore (length l.posts.items) (g.F.Folder.state l.fn.folder)
      (g.F.Folder.state l.folder);
}

abbrev pub decreases-posts : goal.decreases-posts
decreases-posts g l = l.workers - length l.posts.items
