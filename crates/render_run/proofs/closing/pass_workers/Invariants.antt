use Rattle.std.proofs.Common.{◌≡◌, ◌++◌, List, ℕ, drop}
use Rattle.request_lang.specs.Closing.{worker_lines}
use Rattle.answer_page.specs.Page.{Passes, outgoing}
use Rattle.render_run.specs.Posts.{all_counts}
use Rattle.render_run.proofs.closing.pass_workers.Given as goal

-- the lines before those that are left were passed on
abbrev pub invariant-loop-w : goal.invariant-loop-w
invariant-loop-w g l = record {
  front : List ℕ;
  split : front ++ worker_lines l.w (drop l.w (all_counts l.posts))
      ≡ worker_lines 0 (all_counts l.posts);
  passed : Passes front (outgoing g.O.Sink l.initial.page l.initial.out)
      (outgoing g.O.Sink l.page l.out);
}
