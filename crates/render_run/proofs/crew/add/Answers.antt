use Rattle.render_run.proofs.crew.add.Goals as goal

pub returns-clause-ok : goal.returns-clause-ok
returns-clause-ok g c = record {
  post = record {
    caller = c.of-caller.result;
    answers = c.new-answers.result;
  };
  all = rw c.reserve.ensures.items at c.in_default-push.ensures.items;
  of = c.of-caller.ensures.cache;
  has = c.of-caller.ensures.pass;
  unused = rw c.of-caller.ensures.tap c.in_ok-tap.ensures.new;
}
