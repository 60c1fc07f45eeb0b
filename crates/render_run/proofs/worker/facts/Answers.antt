use Rattle.std.proofs.Common.{refl, rules}
use Rattle.render_run.specs.Around.{tally_of}
use Rattle.render_run.specs.Refusal.{refusal_of}
use Rattle.render_run.proofs.NeedLemmas.{keeps_tally, refusal_keeps}
use Rattle.render_run.proofs.PinLemmas.{refusal_tells}
use Rattle.render_run.proofs.worker.facts.Goals as goal

pub returns-in-Ok : goal.returns-in-Ok
returns-in-Ok g c = record {
  answer = record {
    meets = search rules;
    pins = λ shards is. absurd cc;
    after = search rules;
    tallies = keeps_tally _ _ _ (tally_of c.args.caller.now.pass) (tally_of c.info.new.self.pass) _ refl
        c.info.ensures.leaves.same.tiles.recent c.info.ensures.leaves.same.counts.needs
        c.info.ensures.leaves.same.counts.hits c.info.ensures.leaves.same.counts.apart refl;
  };
  cache = search rules;
  oldest = tt;
}

pub returns-in-Err : goal.returns-in-Err
returns-in-Err g c = record {
  answer = record {
    meets = search rules;
    pins = rw c.refusal.ensures (refusal_tells _ _ c.in-Err.e);
    after = search rules;
    tallies = rw c.refusal.ensures
        (keeps_tally _ _ _ (tally_of c.args.caller.now.pass) (tally_of c.info.new.self.pass)
        (refusal_of c.in-Err.e) refl c.info.ensures.leaves.same.tiles.recent
        c.info.ensures.leaves.same.counts.needs c.info.ensures.leaves.same.counts.hits
        c.info.ensures.leaves.same.counts.apart
        (refusal_keeps c.in-Err.e));
  };
  cache = search rules;
  oldest = tt;
}
