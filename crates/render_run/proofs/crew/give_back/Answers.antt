use Rattle.std.proofs.Common.{refl}
use Rattle.render_run.specs.Posts.{sight}
use Rattle.render_run.proofs.Manned.{gives_one}
use Rattle.render_run.proofs.crew.give_back.Goals as goal

pub posts-preserved : goal.posts-preserved
posts-preserved g c = record {
  so_far = gives_one (λ p. sight g.F.Tap.Tap.state p.caller) _ _ _ c.pop.new.self.items
      c.in-Some.post (g.F.Tap.Tap.state c.in-Some.post.caller.tap) _ _ _
      (rw c.in-Some.is at c.pop.ensures.items) refl refl c.posts.invariant.so_far
      c.give_one.ensures;
}
