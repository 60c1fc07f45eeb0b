use Rattle.std.proofs.Common.{[], ◌++◌, refl}
use Rattle.std.proofs.lemmas.List.{append-nil}
use Rattle.request_lang.specs.Closing.{closing_lines, worker_lines, total_line}
use Rattle.answer_page.specs.Page.{sink_of, outgoing}
use Rattle.render_run.specs.Posts.{all_counts}
use Rattle.answer_page.proofs.Passing.{passes_more, passes_longer, rest_longer, then_adds}
use Rattle.render_run.proofs.closing.close.Goals as goal

pub returns-in-Err-clause-passed : goal.returns-in-Err-clause-passed
unfolding closing_lines
returns-in-Err-clause-passed g c =
    passes_longer (worker_lines 0 (all_counts c.args.posts.now))
    (total_line c.args.total c.args.refused) _ _ (sink_of g.O.Sink c.pass_workers.new.out) refl
    c.in-Err.ensures

pub returns-in-Err-pass_total-clause-passed : goal.returns-in-Err-pass_total-clause-passed
unfolding closing_lines
returns-in-Err-pass_total-clause-passed g c =
    rest_longer (worker_lines 0 (all_counts c.args.posts.now))
    (total_line c.args.total c.args.refused) _ (outgoing g.O.Sink c.args.page.now c.args.out.now)
    (outgoing g.O.Sink c.pass_workers.new.page c.pass_workers.new.out)
    (sink_of g.O.Sink c.pass_total.new.out) refl c.in_default.ensures c.in-Err-pass_total.ensures

pub returns-clause-passed : goal.returns-clause-passed
unfolding closing_lines
returns-clause-passed g c =
    let workers = worker_lines 0 (all_counts c.args.posts.now) in
    let total = total_line c.args.total c.args.refused in
    let old = outgoing g.O.Sink c.args.page.now c.args.out.now in
    let mid = outgoing g.O.Sink c.pass_workers.new.page c.pass_workers.new.out in
    let late = outgoing g.O.Sink c.pass_total.new.self c.pass_total.new.out in
    let new = outgoing g.O.Sink c.put.new.self c.put.new.out in
    rw append-nil at (then_adds (workers ++ total) [] old late new c.put.result
    (passes_more workers total old mid late c.in_default.ensures c.in_default-pass_total.ensures)
    c.put.ensures.passed)
