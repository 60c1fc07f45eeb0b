-- All reads are counted together at the end.
use Rattle.std.proofs.Common.{arith}
use Rattle.texture_sys.specs.declared.lookup.Lookups.TheVariants.{One}
use Rattle.texture_sys.specs.Needs.{visits_on}
use Rattle.texture_sys.specs.Fetches.{walk_of}
use Rattle.texture_sys.proofs.Shown.{shown_asks, shown_there}
use Rattle.texture_sys.proofs.local.lookup_local.Goals as goal

pub count_shown-requires-clause-there : goal.count_shown-requires-clause-there
count_shown-requires-clause-there g c =
    shown_there g.T.W.World.files c.args.picture.now c.args.pass.now
    (visits_on c.args.picture.now (One c.args.r.now))
    (walk_of c.args.pass.now c.in-Some.shown.reads c.in-Some.shown.latest) c.in-Some.ensures.each

pub returns-clause-asks : goal.returns-clause-asks
returns-clause-asks g c = λ _.
    shown_asks g.T.W.World.files c.args.picture.now c.args.pass.now c.requires.few
    (visits_on c.args.picture.now (One c.args.r.now))
    (walk_of c.args.pass.now c.in-Some.shown.reads c.in-Some.shown.latest) c.count_shown.new.pass
    (record { needs = omega arith; hits = omega arith }) c.in-Some.ensures.each
    c.count_shown.ensures.counts c.count_shown.ensures.moved
