use Rattle.std.proofs.Common.{◌≤◌, take}
use Rattle.std.specs.List.{All}
use Rattle.render_run.proofs.closing.know_counts.Given as goal

-- it holds for the workers so far
abbrev pub invariant-loop-post : goal.invariant-loop-post
invariant-loop-post g l = record {
  so_far : All (λ p. p.caller.pass.hits ≤ p.caller.pass.needs) (take l.post-index l.posts);
}
