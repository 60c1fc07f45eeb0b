use Rattle.std.proofs.Common.{refl, rules}
use Rattle.render_run.specs.Around.{tally_of}
use Rattle.render_run.proofs.NeedLemmas.{keeps_tally}
use Rattle.render_run.proofs.TileLemmas.{none_gone}
use Rattle.render_run.proofs.worker.release.Goals as goal

pub returns-in-Ok : goal.returns-in-Ok
returns-in-Ok g c = record {
  answer = record {
    meets = search rules;
    pins = λ shards is. absurd cc;
    after = search rules;
    tallies = keeps_tally _ _ _ (tally_of c.args.caller.now.pass)
        (tally_of c.release.new.self.pass) _ refl c.release.ensures.released.same.tiles
        c.release.ensures.released.same.counts.needs
        c.release.ensures.released.same.counts.hits c.release.ensures.released.same.counts.apart refl;
  };
  cache = search rules;
  oldest = c.in-Ok.ensures.released.ok;
}

pub returns-in-Err-NothingHeld : goal.returns-in-Err-NothingHeld
returns-in-Err-NothingHeld g c = record {
  answer = record {
    meets = search rules;
    pins = λ shards is. absurd cc;
    after = search rules;
    tallies = keeps_tally _ _ _ (tally_of c.args.caller.now.pass)
        (tally_of c.release.new.self.pass) _ refl c.release.ensures.released.same.tiles
        c.release.ensures.released.same.counts.needs
        c.release.ensures.released.same.counts.hits c.release.ensures.released.same.counts.apart refl;
  };
  cache = search rules;
  oldest = none_gone c.args.caller.now.pass.pinned.holds c.release.new.self.pass.pinned.holds
      (search rules) (search rules);
}
