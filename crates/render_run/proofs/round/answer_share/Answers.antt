use Rattle.std.proofs.Common.{◌≡◌, ◌+◌, ◌*◌, ◌++◌, ◌∷◌, [], length, get_or, suc, None}
use Rattle.std.proofs.Common.{ap, subst, ◌∙◌, append_assoc, arith}
use Rattle.std.proofs.lemmas.List.{length-append, append-nil, get_or_default}
use Rattle.render_run.specs.declared.question.Task.{Task}
use Rattle.render_run.specs.declared.question.Task.TheVariants as task
use Rattle.render_run.specs.declared.question.Question.TheVariants.{Facts}
use Rattle.std.proofs.Math.Nat.{mul-le-mul_left}
use Rattle.tile_source.specs.Pass.{CacheState}
use Rattle.render_run.specs.Around.{terms_of}
use Rattle.render_run.specs.Answering.{AnswersTask}
use Rattle.render_run.specs.Posts.{sight}
use Rattle.render_run.proofs.Shares.{suc_mul, share_drop, share_next, share_end}
use Rattle.render_run.proofs.round.answer_share.Goals as goal

pub share-init : goal.share-init
share-init g c = record {
  so_far = λ rest end each.
      rw (c.requires.empty, share_drop c.args.turn.workers c.args.turn.worker c.args.tasks.now) each;
  place = rw c.requires.empty (omega arith);
  room = c.requires.room;
  caller = c.requires.caller;
}

pub share-preserved : goal.share-preserved
share-preserved g c =
    let tasks = c.args.tasks.now in
    let n = c.args.turn.workers in
    let k = c.share.k in
    let answer = c.answer_hooked-answer.result in
    let none : Task = task.Ask None Facts in
    let here : Task = get_or tasks k none in
    let items : c.push.new.self.items ≡ c.share.post.answers.items ++ answer ∷ [] =
    c.in_default.ensures.items in
    let more : suc (length c.share.post.answers.items) * n
    ≡ length c.share.post.answers.items * n + n =
    suc_mul (length c.share.post.answers.items) n in
    let long : length c.push.new.self.items ≡ suc (length c.share.post.answers.items) =
    omega (arith, ap length items, length-append c.share.post.answers.items (answer ∷ [])) in
    -- the worker's cache is that of the setting
    let done = subst (λ (x : CacheState). AnswersTask g.T.W.World.files (terms_of x.gate) here
    (sight g.T.Tap.state c.share.post.caller)
    (sight g.T.Tap.state c.answer_hooked-answer.new.caller) answer) c.share.invariant.caller
    c.answer_hooked-answer.ensures.answer in
    record {
      so_far = λ rest end each.
          rw (items, append_assoc c.share.post.answers.items (answer ∷ []) rest)
          (c.share.invariant.so_far (answer ∷ rest) end
          (share_next g.T.W.World.files (terms_of c.args.setting.now.cache.now.gate) n k tasks here
          answer rest (sight g.T.Tap.state c.share.post.caller)
          (sight g.T.Tap.state c.answer_hooked-answer.new.caller) end (omega arith) c.share-test.true
          (get_or_default tasks k here none c.share-test.true) done each));
      place = rw (long, more) (omega (arith, c.share.invariant.place));
      room = omega (
        arith,
        mul-le-mul_left n c.in_default.ensures.capacity,
        c.share.invariant.room,
      );
      caller = c.answer_hooked-answer.ensures.cache ∙ c.share.invariant.caller;
    }

pub returns-clause-each : goal.returns-clause-each
returns-clause-each g c =
    rw append-nil at (c.share.invariant.so_far [] _
    (share_end g.T.W.World.files (terms_of c.args.setting.now.cache.now.gate) c.args.turn.workers c.share.k
    c.args.tasks.now _ c.share-test.false))
