use Rattle.std.proofs.Common.{◌≡◌, ℕ, ◌*◌, ◌<◌, ◌≤◌, inl, inr, ap, ◌∙◌, rules, arith}
use Rattle.std.proofs.lemmas.Bool.{cases_lt}
use Rattle.texel_values.specs.Region.{max_texels}
use Rattle.tile_source.specs.declared.error.CacheError.TheVariants.{RegionTooLarge}
use Rattle.image_cache.specs.Cause.{around}
use Rattle.render_run.specs.Refusal.{refusal_of}
use Rattle.render_run.proofs.RegionLemmas.{region_rests, region_reply}
use Rattle.render_run.proofs.NeedLemmas.{region_tally, region_fails}
use Rattle.render_run.proofs.PinLemmas.{refusal_tells}
use Rattle.render_run.proofs.worker.values.Goals as goal

-- a number that is not greater than the limit
not_large : (n : ℕ) → (max_texels < n → ⊥) → n ≤ max_texels
not_large n none = elim (cases_lt max_texels n) [
  | inl many ↦ absurd (none many)
  | inr few ↦ few
]

pub returns-in-Ok : goal.returns-in-Ok
returns-in-Ok g c = record {
  answer = record {
    meets = record {
      too_large = λ large.
          let many : max_texels < c.args.region.now.w * c.args.region.now.h = search rules in
          let none = (c.in-Ok.ensures.answers.too_large many).0 in absurd (cc (none, c.in-Ok.is));
      full = λ full. absurd (cc full);
      of_file = λ few one.
          rw c.new.ensures
          (region_reply g.T.W.World.files c.args.file c.args.caller.now.cache.gate.cut
          c.args.caller.now.pass c.pixels.new.self.pass c.args.region.now c.in-Ok.pixels.generation
          c.in-Ok.pixels.channels c.pixels.new.out.items
          (c.in-Ok.ensures.answers.count ∙ rw c.new-values.ensures.items (omega arith))
          (rw c.new-values.ensures.items at c.in-Ok.ensures.answers.value) c.in-Ok.ensures.answers.ok);
    };
    pins = λ shards is. absurd cc;
    after = search rules;
    tallies =
        let fits : c.args.region.now.w * c.args.region.now.h ≤ max_texels =
        not_large (c.args.region.now.w * c.args.region.now.h) (λ many.
        let none = (c.in-Ok.ensures.answers.too_large many).0 in absurd (cc (none, c.in-Ok.is))) in
        region_tally g.T.W.World.files c.args.caller.now.cache.gate.cut c.args.file c.in-Ok.pixels.generation
        c.args.caller.now.pass c.pixels.new.self.pass c.args.region.now c.in-Ok.pixels.channels _ fits
        c.pixels.ensures.leaves.same.counts.apart c.in-Ok.ensures.answers.ok;
  };
  cache = search rules;
  oldest = tt;
}

pub returns-in-Err : goal.returns-in-Err
returns-in-Err g c = record {
  answer = record {
    meets = record {
      too_large = λ large.
          let many : max_texels < c.args.region.now.w * c.args.region.now.h = search rules in
          let none = (c.in-Err.ensures.answers.too_large many).0 in
          let is : c.in-Err.e ≡ RegionTooLarge = cc (none, c.in-Err.is) in
          c.refusal.ensures ∙ ap refusal_of is;
      full = λ full. absurd (cc full);
      of_file = λ few one.
          let fits : c.args.region.now.w * c.args.region.now.h ≤ max_texels = search rules in
          rw c.refusal.ensures
          (region_rests (around g.T.W.World.files c.args.file c.args.caller.now.cache.gate.cut
          c.args.caller.now.pass c.pixels.new.self.pass (g.T.Tap.state c.args.caller.now.tap)
          (g.T.Tap.state c.pixels.new.self.tap)) c.args.region.now fits c.in-Err.e
          c.in-Err.ensures.answers.cause);
    };
    pins = rw c.refusal.ensures (refusal_tells _ _ c.in-Err.e);
    after = search rules;
    tallies =
        rw c.refusal.ensures
        (region_fails g.T.W.World.files c.args.caller.now.cache.gate.cut c.args.file
        c.args.caller.now.pass c.pixels.new.self.pass c.args.region.now c.in-Err.e
        c.in-Err.ensures.leaves.unread c.pixels.ensures.leaves.same.counts);
  };
  cache = search rules;
  oldest = tt;
}
