use Rattle.std.proofs.Common.{◌≡◌, ◌≤◌, length}
use Rattle.std.specs.List.{count_by}
use Rattle.request_lang.specs.Basis.{is_refusal}
use Rattle.render_run.specs.Answering.{answers_text, in_turn}
use Rattle.answer_page.specs.Page.{Passes, outgoing}
use Rattle.render_run.specs.Posts.{answers_of}
use Rattle.render_run.proofs.round.write_round.Given as goal

-- the lines of the answers so far were passed on
abbrev pub invariant-loop-i : goal.invariant-loop-i
invariant-loop-i g l = record {
  passed : Passes (answers_text (in_turn (length l.posts) 0 l.i (answers_of l.posts)))
      (outgoing g.O.Sink l.initial.page l.initial.out) (outgoing g.O.Sink l.page l.out);
  refusal : l.refused ≡ count_by is_refusal (in_turn (length l.posts) 0 l.i (answers_of l.posts));
  few : l.refused ≤ l.i;
}
