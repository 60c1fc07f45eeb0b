use Rattle.std.proofs.Common.{◌≡◌, ◌+◌, ◌-◌, ◌≤◌, length, take, drop, refl, arith}
use Rattle.std.proofs.lemmas.List.{take_all, length-drop, length-map}
use Rattle.render_run.specs.Around.{setup_of, terms_of}
use Rattle.answer_page.specs.Page.{sink_of}
use Rattle.render_run.specs.Posts.{answers_of, progress_by, sights_of}
use Rattle.render_run.proofs.Rounds.{none_yet, round_at, there_at, rounds_more, rounds_part, rounds_kept}
use Rattle.render_run.proofs.answering.answer_rounds.Goals as goal

pub rounds-init : goal.rounds-init
rounds-init g c = record {
  so_far =
      rw c.requires.empty
      (none_yet (setup_of g.F.W.World.files (g.F.Folder.state c.args.folder.now)
      (terms_of c.args.setting.now.cache.now.gate) (length c.args.posts.now))
      c.args.requests.now (sights_of g.F.Tap.Tap.state c.args.posts.now)
      (progress_by g.F.Tap.Tap.state c.args.posts.now (sink_of g.O.Sink c.args.out.now))
      (length-map c.args.posts.now _) c.requires.idle c.requires.alone refl);
  within = omega arith;
  few = omega arith;
  callers = c.requires.callers;
}

pub returns-in-Err-clause-err : goal.returns-in-Err-clause-err
returns-in-Err-clause-err g c = (
  c.rounds.done,
  c.rounds.refused,
  rounds_kept _ c.args.requests.now c.rounds.done _ _ _
      (progress_by g.F.Tap.Tap.state c.rounds.posts (sink_of g.O.Sink c.rounds.out)) _
      c.rounds.page c.rounds.refused c.rounds.invariant.so_far c.in-Err.ensures.err,
)

pub write_round-requires-clause-there : goal.write_round-requires-clause-there
write_round-requires-clause-there g c =
    let rs = c.args.requests.now in
    let done = c.rounds.done in
    let count = c.round_len-count.result in
    let n = length c.args.posts.now in
    let folder = g.F.Folder.state c.args.folder.now in
    let terms = terms_of c.args.setting.now.cache.now.gate in
    let lists = answers_of c.answer_next.new.posts in
    let within : done + count ≤ length rs = omega (arith, c.round_len-count.ensures.within) in
    let size : done + count - done ≡ count = omega arith in
    let crew : length c.answer_next.new.posts ≡ n =
    omega (arith, c.answer_next.auto.posts, c.rounds.auto.posts) in
    let round = round_at g.F.W.World.files folder terms (length c.rounds.posts) n
    (done + count - done) count (drop done rs) lists _ _ c.rounds.auto.posts size
    c.in_default.ensures.ok in
    there_at (setup_of g.F.W.World.files folder terms n) done count
    (length c.answer_next.new.posts) rs lists _ _ within crew round

pub rounds-preserved : goal.rounds-preserved
rounds-preserved g c =
    let rs = c.args.requests.now in
    let done = c.rounds.done in
    let count = c.round_len-count.result in
    let n = length c.args.posts.now in
    let folder = g.F.Folder.state c.args.folder.now in
    let terms = terms_of c.args.setting.now.cache.now.gate in
    let lists = answers_of c.answer_next.new.posts in
    let within : done + count ≤ length rs = omega (arith, c.round_len-count.ensures.within) in
    let size : done + count - done ≡ count = omega arith in
    let crew : length c.answer_next.new.posts ≡ n =
    omega (arith, c.answer_next.auto.posts, c.rounds.auto.posts) in
    let round = round_at g.F.W.World.files folder terms (length c.rounds.posts) n
    (done + count - done) count (drop done rs) lists _ _ c.rounds.auto.posts size
    c.in_default.ensures.ok in
    let rest : take (length rs - done) (drop done rs) ≡ drop done rs =
    take_all (length rs - done) (drop done rs) (omega (arith, length-drop done rs)) in
    let setup = setup_of g.F.W.World.files folder terms n in
    let old = progress_by g.F.Tap.Tap.state c.args.posts.now (sink_of g.O.Sink c.args.out.now) in
    let mid = progress_by g.F.Tap.Tap.state c.rounds.posts (sink_of g.O.Sink c.rounds.out) in
    let new = progress_by g.F.Tap.Tap.state c.answer_next.new.posts
    (sink_of g.O.Sink c.write_round.new.out) in
    record {
      so_far = rounds_more setup rs done count (length c.answer_next.new.posts) _ _ old mid new
          c.rounds.page c.write_round.new.page c.rounds.refused c.in-Ok.said
          (c.rounds.refused + c.in-Ok.said) lists c.requires.crew.0 crew round
          c.rounds.invariant.so_far (rw rest at c.round_len-count.ensures.round) within
          c.in-Ok.ensures.passed c.in-Ok.ensures.refusal refl;
      within = within;
      few = omega (arith, c.rounds.invariant.few, c.in-Ok.ensures.few);
      callers = c.answer_next.ensures.callers;
    }

pub returns-in-Err-write_round-clause-err : goal.returns-in-Err-write_round-clause-err
returns-in-Err-write_round-clause-err g c =
    let rs = c.args.requests.now in
    let done = c.rounds.done in
    let count = c.round_len-count.result in
    let n = length c.args.posts.now in
    let folder = g.F.Folder.state c.args.folder.now in
    let terms = terms_of c.args.setting.now.cache.now.gate in
    let lists = answers_of c.answer_next.new.posts in
    let within : done + count ≤ length rs = omega (arith, c.round_len-count.ensures.within) in
    let size : done + count - done ≡ count = omega arith in
    let crew : length c.answer_next.new.posts ≡ n =
    omega (arith, c.answer_next.auto.posts, c.rounds.auto.posts) in
    let round = round_at g.F.W.World.files folder terms (length c.rounds.posts) n
    (done + count - done) count (drop done rs) lists _ _ c.rounds.auto.posts size
    c.in_default.ensures.ok in
    let rest : take (length rs - done) (drop done rs) ≡ drop done rs =
    take_all (length rs - done) (drop done rs) (omega (arith, length-drop done rs)) in
    let setup = setup_of g.F.W.World.files folder terms n in
    let old = progress_by g.F.Tap.Tap.state c.args.posts.now (sink_of g.O.Sink c.args.out.now) in
    let mid = progress_by g.F.Tap.Tap.state c.rounds.posts (sink_of g.O.Sink c.rounds.out) in
    rounds_part setup rs done count (length c.answer_next.new.posts) _ _ old mid
    (sink_of g.O.Sink c.write_round.new.out) c.rounds.page c.rounds.refused lists
    c.requires.crew.0 crew round c.rounds.invariant.so_far
    (rw rest at c.round_len-count.ensures.round) within c.in-Err-write_round.ensures.passed
