-- Some taps are given back.
use Rattle.std.proofs.Common.{length}
use Rattle.render_run.specs.Around.{source_of_crew}
use Rattle.render_run.specs.Crew.{GivesMore}
use Rattle.render_run.specs.Posts.{sights_of}
use Rattle.render_run.proofs.crew.give_back.Given as goal

abbrev pub invariant-posts : goal.invariant-posts
invariant-posts g l = record {
  so_far : GivesMore (length l.fn.posts.items)
      (source_of_crew (sights_of g.F.Tap.Tap.state l.fn.posts.items)) (length l.posts.items)
      (source_of_crew (sights_of g.F.Tap.Tap.state l.posts.items)) (g.F.Folder.state l.fn.folder)
      (g.F.Folder.state l.folder);
}

abbrev pub decreases-posts : goal.decreases-posts
decreases-posts g l = length l.posts.items
