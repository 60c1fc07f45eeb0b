use Rattle.std.proofs.Common.{◌≡◌, ◌+◌, ◌++◌, ◌∷◌, [], List, take, sym, ap, subst, ◌∙◌}
use Rattle.std.specs.List.{All}
use Rattle.std.proofs.lemmas.List.{take_more}
use Rattle.std.proofs.lemmas.List.Elements.{All-push}
use Rattle.request_lang.specs.declared.request.Request.{Request}
use Rattle.render_run.specs.declared.question.Task.{Task}
use Rattle.render_run.specs.Question.{AreGivenOf}
use Rattle.render_run.specs.Answering.{MayBeGiven}
use Rattle.render_run.proofs.Naming.{given_push}
use Rattle.render_run.proofs.round.deal.Goals as goal

pub loop-request-preserved : goal.loop-request-preserved
loop-request-preserved g c =
    let rs = c.args.requests.now in
    let i = c.loop-request.request-index in
    let front = take i rs in
    let r = c.request-item.result in
    let given = MayBeGiven g.F.W.World.files (g.F.Folder.state c.args.folder.now).size in
    let number_of = (g.F.Folder.state c.args.folder.now).number_of in
    let next : take (i + 1) rs ≡ front ++ r ∷ [] =
    take_more rs i r c.loop-request-test.true
    ∙ ap (λ (x : Request). front ++ x ∷ []) (sym c.request-item.is) in
    let items : c.push.new.self.items ≡ c.loop-request.tasks.items ++ c.next_task.result ∷ [] =
    c.in_ok-push.ensures.items in
    record {
      tasks =
          subst (λ (ts : List Task). AreGivenOf number_of (take (i + 1) rs) ts) (sym items)
          (subst (λ (asked : List Request).
          AreGivenOf number_of asked (c.loop-request.tasks.items ++ c.next_task.result ∷ [])) (sym next)
          (given_push number_of front c.loop-request.tasks.items r c.next_task.result
          c.loop-request.invariant.tasks c.next_task.ensures.value));
      given =
          subst (λ (ts : List Task). All given ts) (sym items)
          (All-push given c.loop-request.tasks.items c.next_task.result
          c.loop-request.invariant.given c.next_task.ensures.given);
      known = c.next_task.ensures.known;
    }
