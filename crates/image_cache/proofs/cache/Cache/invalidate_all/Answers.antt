-- One file more.
use Rattle.std.proofs.Common.{rules, arith}
use Rattle.image_cache.proofs.AskLemmas.{asks_first, asks_more, steps_later, steps_more}
use Rattle.tile_source.specs.Source.{pass_tap}
use Rattle.image_cache.proofs.InvalidLemmas.{renews_none, renews_more}
use Rattle.image_cache.proofs.cache.Cache.invalidate_all.Goals as goal

pub loop-file-init : goal.loop-file-init
loop-file-init g c = record {
  pass = search rules;
  emptied = search rules;
  later = search rules;
  least = search rules;
  steps = λ f low. absurd (omega arith);
  asks = asks_first c.empty.new.pass.view (g.T.Tap.state c.args.tap.now).asks;
  all = renews_none g.T.W.World.files c.args.self.now.gate c.args.pass.now c.empty.new.pass
      (g.T.Tap.state c.args.tap.now) c.empty.ensures.visits c.empty.ensures.view;
  tap = search rules;
}

pub loop-file-preserved : goal.loop-file-preserved
loop-file-preserved g c = record {
  pass = search rules;
  emptied = search rules;
  later = λ f. omega (
    arith,
    c.loop-file.invariant.later f,
    c.renew_known.ensures.same.view.later f,
  );
  least = λ f. omega (
    arith,
    c.loop-file.invariant.least f,
    steps_later c.loop-file.file c.loop-file.pass.view c.renew_known.new.pass.view
        c.renew_known.ensures.same.view c.in_default-renew_known.ensures.ok.steps f,
  );
  steps = steps_more c.loop-file.file c.args.pass.now.view c.loop-file.pass.view
      c.renew_known.new.pass.view c.renew_known.ensures.same.view
      c.in_default-renew_known.ensures.ok.steps c.loop-file.invariant.least
      c.loop-file.invariant.steps;
  asks = asks_more c.loop-file.file c.loop-file.pass.view c.renew_known.new.pass.view
      (g.T.Tap.state c.args.tap.now) (g.T.Tap.state c.loop-file.tap)
      (g.T.Tap.state c.renew_known.new.tap) c.renew_known.ensures.same.view
      c.in_default-renew_known.ensures.ok c.loop-file.invariant.asks;
  all = renews_more g.T.W.World.files c.args.self.now.gate c.loop-file.file
      (pass_tap c.args.pass.now (g.T.Tap.state c.args.tap.now))
      (pass_tap c.loop-file.pass (g.T.Tap.state c.loop-file.tap))
      (pass_tap c.renew_known.new.pass (g.T.Tap.state c.renew_known.new.tap))
      c.loop-file.invariant.all c.in_default-renew_known.ensures.renewed;
  tap = search rules;
}
