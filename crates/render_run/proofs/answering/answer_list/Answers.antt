use Rattle.answer_page.specs.Page.{sink_of}
use Rattle.render_run.proofs.Rounds.{rounds_finish, close_cut, rounds_put, rounds_cut}
use Rattle.render_run.proofs.answering.answer_list.Goals as goal

pub returns-in-Ok-close : goal.returns-in-Ok-close
returns-in-Ok-close g c =
    rounds_finish g.F.Tap.Tap.state c.answer_rounds.new.posts _ c.args.requests.now _ _
    c.answer_rounds.new.page c.in-Ok.refused
    (rw c.answer_rounds.auto.posts c.requires.crew.0) c.in-Ok.ensures.ok c.requires.may.few
    c.close.ensures.few (sink_of g.O.Sink c.close.new.out) c.close.new.page
    c.in-Ok-close.ensures.passed c.in-Ok-close.ensures.empty

pub returns-in-Err : goal.returns-in-Err
returns-in-Err g c =
    close_cut g.F.Tap.Tap.state c.answer_rounds.new.posts _ c.args.requests.now _ _
    c.answer_rounds.new.page c.in-Ok.refused
    (rw c.answer_rounds.auto.posts c.requires.crew.0) c.in-Ok.ensures.ok c.requires.may.few
    c.close.ensures.few (sink_of g.O.Sink c.close.new.out) c.in-Err.ensures.passed

pub returns-in-Ok-put : goal.returns-in-Ok-put
returns-in-Ok-put g c =
    let ended = rw c.in-Err-NoMemory.field-0-is at c.in-Err-NoMemory.ensures.err in
    rounds_put _ c.args.requests.now ended.0 _ _ _ (sink_of g.O.Sink c.put.new.out)
    c.answer_rounds.new.page ended.1 ended.2 c.put.new.self
    c.in-Ok-put.ensures.passed c.in-Ok-put.ensures.empty

pub returns-in-Err-put : goal.returns-in-Err-put
returns-in-Err-put g c =
    let ended = rw c.in-Err-NoMemory.field-0-is at c.in-Err-NoMemory.ensures.err in
    rounds_cut _ c.args.requests.now ended.0 _ _ _ (sink_of g.O.Sink c.put.new.out)
    c.answer_rounds.new.page ended.1 ended.2 c.in-Err-put.ensures.passed
