use Rattle.std.proofs.Common.{◌≡◌, ℕ, ◌+◌, ◌<◌, ◌++◌, ◌∷◌, List, [], length, drop, get_or, refl, sym, ap}
use Rattle.std.proofs.Common.{◌∙◌}
use Rattle.std.proofs.Common.{append_assoc}
use Rattle.std.proofs.lemmas.List.{drop_more, get_or-map, length-map}
use Rattle.request_lang.specs.declared.closing.Counts.{Counts}
use Rattle.request_lang.specs.Closing.{worker_line, worker_lines}
use Rattle.render_run.specs.Around.{counts_of}
use Rattle.answer_page.specs.Page.{sink_of, outgoing}
use Rattle.render_run.specs.Posts.{all_counts}
use Rattle.answer_page.proofs.Passing.{passes_more, rest_longer, none_passed}
use Rattle.render_run.proofs.closing.pass_workers.Goals as goal

-- the lines from a worker on are its own and those of the others
lines_split : (front all : List ℕ) (w : ℕ) (counts : List Counts) (one d : Counts)
    → w < length counts → get_or counts w d ≡ one
    → front ++ worker_lines w (drop w counts) ≡ all
    → (front ++ worker_line w one) ++ worker_lines (w + 1) (drop (w + 1) counts) ≡ all
lines_split front all w counts one d low is split =
    append_assoc front (worker_line w one) (worker_lines (w + 1) (drop (w + 1) counts))
    ∙ ap (λ (rest : List Counts). front ++ worker_lines w rest)
    (ap (λ (c : Counts). c ∷ drop (w + 1) counts) (sym is) ∙ sym (drop_more counts w d low))
    ∙ split

pub loop-w-init : goal.loop-w-init
loop-w-init g c = record {
  front = [];
  split = refl;
  passed = none_passed (outgoing g.O.Sink c.args.page.now c.args.out.now);
}

pub returns-in-Err : goal.returns-in-Err
returns-in-Err g c =
    rest_longer c.loop-w.invariant.front _ _ (outgoing g.O.Sink c.args.page.now c.args.out.now)
    (outgoing g.O.Sink c.loop-w.page c.loop-w.out) (sink_of g.O.Sink c.pass_worker.new.out)
    c.loop-w.invariant.split c.loop-w.invariant.passed c.in-Err.ensures

pub loop-w-preserved : goal.loop-w-preserved
loop-w-preserved g c =
    let posts = c.args.posts.now in
    let one : Counts = record {
      needs = c.needs.result;
      hits = c.hits.result;
      apart = c.apart.result;
    } in
    let low : c.loop-w.w < length posts = c.loop-w-test.true in
    let here : get_or (all_counts posts) c.loop-w.w one ≡ one =
    get_or-map (λ p. counts_of p.caller.pass) posts c.loop-w.w c.index-posts-w.result one low
    ∙ rw (c.needs.ensures, c.hits.ensures.value, c.apart.ensures, c.pass-pass.ensures.value) refl in
    record {
      front = c.loop-w.invariant.front ++ worker_line c.loop-w.w one;
      split = lines_split c.loop-w.invariant.front _ c.loop-w.w (all_counts posts) one one
          (rw length-map low) here c.loop-w.invariant.split;
      passed = passes_more c.loop-w.invariant.front (worker_line c.loop-w.w one)
          (outgoing g.O.Sink c.args.page.now c.args.out.now)
          (outgoing g.O.Sink c.loop-w.page c.loop-w.out)
          (outgoing g.O.Sink c.pass_worker.new.self c.pass_worker.new.out)
          c.loop-w.invariant.passed c.in_default.ensures;
    }
