use Rattle.std.proofs.Common.{◌≡◌, sym, subst}
use Rattle.render_run.specs.Crew.{SeeNoLess, AreCarried}
use Rattle.render_run.specs.Posts.{sight, sights_of}
use Rattle.render_run.proofs.CrewLemmas.{told_same, all_same}
use Rattle.render_run.proofs.answering.begin.Goals as goal

pub returns-in_default-make_room-clause-kept : goal.returns-in_default-make_room-clause-kept
returns-in_default-make_room-clause-kept g c =
    subst (SeeNoLess (sights_of g.F.Tap.Tap.state c.args.posts.now))
    (sym (told_same (λ p. p.caller) c.make_room.new.posts c.carry_all.new.posts
    c.make_room.ensures.same (sight g.F.Tap.Tap.state)))
    c.carry_all.ensures.kept

pub returns-in_default-make_room-clause-callers : goal.returns-in_default-make_room-clause-callers
returns-in_default-make_room-clause-callers g c =
    all_same (λ p. p.caller) c.make_room.new.posts c.carry_all.new.posts c.make_room.ensures.same
    (λ w. w.cache ≡ c.args.cache.now) c.carry_all.ensures.callers

pub returns-clause-ok : goal.returns-clause-ok
returns-clause-ok g c =
    subst (AreCarried (sights_of g.F.Tap.Tap.state c.args.posts.now))
    (sym (told_same (λ p. p.caller) c.make_room.new.posts c.carry_all.new.posts
    c.make_room.ensures.same (sight g.F.Tap.Tap.state)))
    c.in_ok-carry_all.ensures.ok

pub returns-clause-kept : goal.returns-clause-kept
returns-clause-kept g c =
    subst (SeeNoLess (sights_of g.F.Tap.Tap.state c.args.posts.now))
    (sym (told_same (λ p. p.caller) c.make_room.new.posts c.carry_all.new.posts
    c.make_room.ensures.same (sight g.F.Tap.Tap.state)))
    c.carry_all.ensures.kept

pub returns-clause-callers : goal.returns-clause-callers
returns-clause-callers g c =
    all_same (λ p. p.caller) c.make_room.new.posts c.carry_all.new.posts c.make_room.ensures.same
    (λ w. w.cache ≡ c.args.cache.now) c.carry_all.ensures.callers
