-- What was answered so far, and then what is left, is the whole share.
use Rattle.std.proofs.Common.{◌≡◌, ◌+◌, ◌*◌, ◌-◌, ◌≤◌, ◌++◌, List, length, drop}
use Rattle.std.specs.Prelude.{vec_capacity}
use Rattle.request_lang.specs.declared.answer.Answer.{Answer}
use Rattle.render_run.specs.Around.{Sight, terms_of}
use Rattle.render_run.specs.Answering.{AnswersEach, share_of}
use Rattle.render_run.specs.Posts.{sight}
use Rattle.render_run.proofs.round.answer_share.Given as goal

abbrev pub invariant-share : goal.invariant-share
invariant-share g l = record {
  so_far : (rest : List Answer) (end : Sight)
      → AnswersEach g.T.W.World.files (terms_of l.setting.cache.now.gate)
      (share_of l.turn.workers 0 (drop l.k l.tasks)) rest
      (sight g.T.Tap.state l.post.caller) end
      → AnswersEach g.T.W.World.files (terms_of l.setting.cache.now.gate)
      (share_of l.turn.workers l.turn.worker l.tasks) (l.post.answers.items ++ rest)
      (sight g.T.Tap.state l.initial.post.caller) end;
  place : l.k ≡ l.turn.worker + length l.post.answers.items * l.turn.workers;
  room : length l.tasks ≤ l.turn.workers * vec_capacity l.post.answers;
  caller : l.post.caller.cache ≡ l.setting.cache.now;
}

abbrev pub decreases-share : goal.decreases-share
decreases-share g l = length l.tasks - l.k
