use Rattle.std.proofs.Common.{◌≡◌, List, length, sym, ap, subst, arith}
use Rattle.render_run.specs.declared.question.Task.{Task}
use Rattle.render_run.specs.Around.{terms_of}
use Rattle.render_run.specs.Question.{AreGivenOf}
use Rattle.render_run.specs.Posts.{answers_of, sight, sights_of}
use Rattle.render_run.proofs.Shares.{turns_taken, turns_there}
use Rattle.render_run.proofs.Naming.{given_length, turns_named}
use Rattle.render_run.proofs.answering.answer_next.Goals as goal

pub answer_round-requires-clause-room : goal.answer_round-requires-clause-room
answer_round-requires-clause-room g c κs within = λ k d lt.
    let room = c.in_ok-begin.ensures.room k d lt in (
      room.0,
      rw (
        c.deref.ensures.value,
        given_length _ _ c.begin.new.tasks.items c.in_ok-begin.ensures.dealt.are,
        c.begin.auto.posts,
      ) room.1,
    )

pub answer_round-requires-clause-few : goal.answer_round-requires-clause-few
answer_round-requires-clause-few g c κs within =
    let long : length c.begin.new.tasks.items ≡ length c.args.requests.now =
    given_length _ c.args.requests.now c.begin.new.tasks.items c.in_ok-begin.ensures.dealt.are in
    let same : length c.deref.result.now ≡ length c.begin.new.tasks.items =
    ap length c.deref.ensures.value in
    omega (arith, long, same, c.requires.few)

pub returns-clause-ok : goal.returns-clause-ok
returns-clause-ok g c =
    let files = g.F.W.World.files in
    let terms = terms_of c.args.setting.now.cache.now.gate in
    let number_of = (g.F.Folder.state c.args.folder.now).number_of in
    let rs = c.args.requests.now in
    let n = length c.args.posts.now in
    let lists = answers_of c.answer_round.new.posts in
    let given : AreGivenOf number_of rs c.deref.result.now =
    subst (λ (ts : List Task). AreGivenOf number_of rs ts) (sym c.deref.ensures.value)
    c.in_ok-begin.ensures.dealt.are in
    let long : length c.deref.result.now ≡ length rs = given_length number_of rs _ given in
    record {
      before = sights_of g.F.Tap.Tap.state c.begin.new.posts;
      carried = c.in_ok-begin.ensures.ok;
      there = turns_there (λ p. sight g.F.Tap.Tap.state p.caller) files terms
          c.deref.result.now lists n (length rs) c.begin.new.posts c.answer_round.new.posts
          c.begin.auto.posts c.requires.crew.0 long c.answer_round.ensures.shares;
      turns = turns_named files terms number_of n 0 rs c.deref.result.now _ _ _ given
          (turns_taken (λ p. sight g.F.Tap.Tap.state p.caller) files terms c.deref.result.now
          lists n (length rs) c.begin.new.posts c.answer_round.new.posts c.begin.auto.posts
          c.requires.crew.0 long c.answer_round.ensures.shares);
    }
