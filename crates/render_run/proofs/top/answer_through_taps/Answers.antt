use Rattle.std.proofs.Common.{sym, ◌≡◌, ◌∙◌, ℕ, length, ap, subst, arith}
use Rattle.std.specs.Arc.{arc_value}
use Rattle.render_run.specs.Around.{source_of_crew, terms_for, terms_of}
use Rattle.answer_page.specs.Page.{sink_of}
use Rattle.render_run.specs.Crew.{TakesBack}
use Rattle.render_run.specs.Posts.{sights_of}
use Rattle.render_run.proofs.Manned.{crew_alone, crew_idle, crew_none, crew_passes, taps_back}
use Rattle.render_run.proofs.Manned.{written_back}
use Rattle.render_run.proofs.Folders.{leaves_through, no_rounds, no_taps, taps_made}
use Rattle.render_run.proofs.top.answer_through_taps.Goals as goal

pub returns-in_default : goal.returns-in_default
returns-in_default g c = record {
  left = no_rounds _ _ (g.F.Folder.state c.args.folder.now) (g.F.Folder.state c.args.folder.now)
      _ (omega arith) (omega arith);
  made = tt;
  taps = no_taps (g.F.Folder.state c.args.folder.now);
}

pub returns-in_default-cache_of : goal.returns-in_default-cache_of
returns-in_default-cache_of g c = record {
  left = no_rounds _ _ (g.F.Folder.state c.args.folder.now) (g.F.Folder.state c.args.folder.now)
      _ (omega arith) (omega arith);
  made = tt;
  taps = no_taps (g.F.Folder.state c.args.folder.now);
}

pub returns-in_default-crew_of : goal.returns-in_default-crew_of
returns-in_default-crew_of g c = record {
  left = no_rounds _ _ (g.F.Folder.state c.args.folder.now)
      (g.F.Folder.state c.crew_of.new.folder) _
      c.in_default-crew_of.ensures.back.folder.faults
      c.in_default-crew_of.ensures.back.folder.moves;
  made = tt;
  taps = c.in_default-crew_of.ensures.back;
}

pub answer_list-answered-requires-clause-may : goal.answer_list-answered-requires-clause-may
answer_list-answered-requires-clause-may g c κs within =
    rw c.deref-shared.ensures (record {
      entered = rw c.in-Ok-crew_of.ensures.made.files.entered c.requires.entered;
      files = c.in-Ok-cache_of.ensures.files ∙ c.count.ensures
          ∙ sym c.in-Ok-crew_of.ensures.made.files.size;
      asked = rw c.deref.ensures.value c.requires.may;
      few = rw c.deref.ensures.value c.requires.few;
    })

pub answer_list-answered-requires-clause-idle : goal.answer_list-answered-requires-clause-idle
answer_list-answered-requires-clause-idle g c κs within =
    rw c.deref_mut.ensures.value
    (crew_idle g.F.Tap.Tap.state (arc_value c.in-Ok-cache_of.cache) c.in-Ok-crew_of.posts.items
    c.in-Ok-crew_of.ensures.new)

pub answer_list-answered-requires-clause-callers : goal.answer_list-answered-requires-clause-callers
answer_list-answered-requires-clause-callers g c κs within =
    rw (c.deref_mut.ensures.value, c.deref-shared.ensures)
    (crew_passes g.F.Tap.Tap.state (arc_value c.in-Ok-cache_of.cache) c.in-Ok-crew_of.posts.items
    c.in-Ok-crew_of.ensures.new)

pub answer_list-answered-requires-clause-alone : goal.answer_list-answered-requires-clause-alone
answer_list-answered-requires-clause-alone g c κs within =
    rw (c.deref_mut.ensures.value, c.deref-shared.ensures)
    (crew_alone g.F.Tap.Tap.state (arc_value c.in-Ok-cache_of.cache) c.args.asked.now.options.workers
    (arc_value c.in-Ok-cache_of.cache).gate.passes c.in-Ok-cache_of.pass c.in-Ok-crew_of.posts.items
    c.in-Ok-crew_of.ensures.count c.in-Ok-cache_of.ensures.pass.permits
    c.in-Ok-crew_of.ensures.alone)

pub returns : goal.returns
returns g c =
    let f0 = g.F.Folder.state c.args.folder.now in
    let f1 = g.F.Folder.state c.crew_of.new.folder in
    let f2 = g.F.Folder.state c.give_back.new.folder in
    let workers = c.args.asked.now.options.workers in
    let before = c.deref_mut.result.now in
    let after = c.answer_list-answered.new.posts in
    let seen = source_of_crew (sights_of g.F.Tap.Tap.state after) in
    let whole = written_back c.in-Ok-crew_of.posts.len after c.in-Ok-crew_of.posts.items
    (omega (arith, c.deref_mut.ensures.len, c.answer_list-answered.auto.posts)) in
    let made = c.in-Ok-crew_of.ensures.made in
    let given : TakesBack (length after) seen f1 f2 = rw whole at c.give_back.ensures in
    let count : length before ≡ workers =
    ap length c.deref_mut.ensures.value ∙ c.in-Ok-crew_of.ensures.count in
    record {
      left =
          leaves_through g.F.W.World.files (terms_of (arc_value c.in-Ok-cache_of.cache).gate)
          (terms_for c.args.asked.now.options) (length after) (length before) workers
          c.args.asked.now.requests.items
          (source_of_crew (sights_of g.F.Tap.Tap.state before)) seen f0 f1 f2
          (rw c.deref_mut.ensures.value
          (crew_none g.F.Tap.Tap.state (arc_value c.in-Ok-cache_of.cache) c.in-Ok-crew_of.posts.items
          c.in-Ok-crew_of.ensures.new))
          made given c.in-Ok-cache_of.ensures.terms count
          (sink_of g.O.Sink c.args.out.now) (sink_of g.O.Sink c.answer_list-answered.new.out)
          c.answer_list-answered.result
          (rw (c.deref.ensures.value, c.deref-shared.ensures) at c.answer_list-answered.ensures);
      made = taps_made (length after) workers seen f0 f1 f2 made given
          c.answer_list-answered.result;
      taps = taps_back workers seen f0 f1 f2 made
          (subst (λ (k : ℕ). TakesBack k seen f1 f2) (c.answer_list-answered.auto.posts ∙ count)
          given);
    }
