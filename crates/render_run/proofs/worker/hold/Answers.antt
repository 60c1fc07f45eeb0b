use Rattle.std.proofs.Common.{◌≡◌, refl, ◌∙◌, nat_eq, false, length, ap, rules}
use Rattle.std.proofs.lemmas.Bool.{eq-eqb}
use Rattle.tile_source.specs.Pass.{PassState}
use Rattle.tile_source.specs.declared.error.CacheError.TheVariants.{HoldsFull}
use Rattle.image_cache.specs.Cause.{around}
use Rattle.render_run.specs.Refusal.{refusal_of}
use Rattle.render_run.specs.Around.{tally_of}
use Rattle.render_run.proofs.TileLemmas.{holds_more, tile_rests, tile_reply}
use Rattle.render_run.proofs.NeedLemmas.{keeps_tally, refusal_keeps}
use Rattle.render_run.proofs.PinLemmas.{refusal_tells}
use Rattle.render_run.proofs.worker.hold.Goals as goal

-- fewer tiles are held
not_four : (pass : PassState) → nat_eq (length pass.pinned.holds) 4 ≡ false
    → length pass.pinned.holds ≡ 4 → ⊥
not_four pass none four = absurd (cc (none, eq-eqb (length pass.pinned.holds) 4 four))

pub returns-in-Ok : goal.returns-in-Ok
returns-in-Ok g c = record {
  answer = record {
    meets = record {
      too_large = λ large. absurd (cc large);
      full = λ full.
          let four : length c.args.caller.now.pass.pinned.holds ≡ 4 = search rules in
          let none = (c.in-Ok.ensures.answers.full four).0 in absurd (cc (none, c.in-Ok.is));
      of_file = λ few one.
          tile_reply g.T.W.World.files c.args.file c.args.caller.now.cache.gate.cut
          c.args.caller.now.pass c.hold.new.self.pass c.args.at c.in-Ok.generation c.held_rect.result
          g.T.W.World.lawful (rw (c.held_count-place.ensures, c.pass.ensures.value, c.pass-in-Ok.ensures.value)
          at c.held_rect.ensures)
          c.in-Ok.ensures.answers.ok;
    };
    pins = λ shards is. absurd cc;
    after = record {
      later = search rules;
      fresh = search rules;
      permits = search rules;
      holds = holds_more g.T.W.World.files c.args.file c.args.caller.now.cache.gate.cut c.args.at
          c.args.caller.now.pass c.hold.new.self.pass c.in-Ok.generation c.in-Ok.ensures.answers.ok;
      cause = search rules;
      counts = search rules;
    };
    tallies =
        keeps_tally g.T.W.World.files c.args.caller.now.cache.gate.cut _ (tally_of c.args.caller.now.pass)
        (tally_of c.hold.new.self.pass) _ refl c.hold.ensures.leaves.recent.recent
        c.hold.ensures.leaves.recent.counts.needs c.hold.ensures.leaves.recent.counts.hits
        c.hold.ensures.leaves.recent.counts.apart refl;
  };
  cache = search rules;
  oldest = tt;
}

pub returns-in-Err : goal.returns-in-Err
returns-in-Err g c = record {
  answer = record {
    meets = record {
      too_large = λ large. absurd (cc large);
      full = λ full.
          let four : length c.args.caller.now.pass.pinned.holds ≡ 4 = search rules in
          let none = (c.in-Err.ensures.answers.full four).0 in
          let is : c.in-Err.e ≡ HoldsFull = cc (none, c.in-Err.is) in
          c.refusal.ensures ∙ ap refusal_of is;
      of_file = λ few one.
          rw c.refusal.ensures
          (tile_rests (around g.T.W.World.files c.args.file c.args.caller.now.cache.gate.cut
          c.args.caller.now.pass c.hold.new.self.pass (g.T.Tap.state c.args.caller.now.tap)
          (g.T.Tap.state c.hold.new.self.tap)) c.args.at (not_four c.args.caller.now.pass one)
          c.in-Err.e c.in-Err.ensures.answers.cause);
    };
    pins = rw c.refusal.ensures (refusal_tells _ _ c.in-Err.e);
    after = search rules;
    tallies =
        rw c.refusal.ensures
        (keeps_tally g.T.W.World.files c.args.caller.now.cache.gate.cut _ (tally_of c.args.caller.now.pass)
        (tally_of c.hold.new.self.pass) (refusal_of c.in-Err.e) refl c.hold.ensures.leaves.recent.recent
        c.hold.ensures.leaves.recent.counts.needs c.hold.ensures.leaves.recent.counts.hits
        c.hold.ensures.leaves.recent.counts.apart (refusal_keeps c.in-Err.e));
  };
  cache = search rules;
  oldest = tt;
}
