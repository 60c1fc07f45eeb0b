use Rattle.std.proofs.Common.{◌≡◌, ◌∙◌, length, refl, sym, rules}
use Rattle.texture_sys.specs.declared.lookup_request.LookupRequest.TheVariants.{Footprint}
use Rattle.request_lang.specs.declared.answer.Answer.TheVariants as line
use Rattle.render_run.proofs.NeedLemmas.{lookup_tally, lookup_fails, first_of}
use Rattle.render_run.proofs.PinLemmas.{refusal_tells}
use Rattle.render_run.proofs.worker.lookup_along.Goals as goal

pub returns-in-Ok : goal.returns-in-Ok
returns-in-Ok g c =
    let long : length c.texture_d.new.out ≡ c.args.request.now.nch = search rules in
    let same : c.few.result ≡ c.texture_d.new.out =
    c.few.ensures ∙ first_of c.args.request.now.nch c.texture_d.new.out _ (sym long) in
    record {
      answer = record {
        meets = record {
          too_large = λ large. absurd (cc large);
          full = λ full. absurd (cc full);
          of_file = λ few one. rw same (record {
            form = long;
            real = c.in-Ok.ensures.answers.value.of.real;
            reply = c.in-Ok.ensures.answers.value.value;
          });
        };
        pins = λ shards is. absurd cc;
        after = search rules;
        tallies = lookup_tally g.T.W.World.files c.args.caller.now.cache.gate.cut c.args.file
            c.in-Ok.generation c.args.caller.now.pass c.texture_d.new.self.pass
            (Footprint c.args.request.now) (line.Texd c.in-Ok.generation c.few.result)
            c.texture_d.ensures.leaves.same.counts c.in-Ok.ensures.answers.value.of.real
            (λ bytes held. (c.in-Ok.ensures.answers.value.value bytes held).good) (λ keys told. told) refl
            c.in-Ok.ensures.leaves.kept;
      };
      cache = search rules;
      oldest = tt;
    }

pub returns-in-Err : goal.returns-in-Err
returns-in-Err g c = record {
  answer = record {
    meets = search rules;
    pins = rw c.refusal.ensures (refusal_tells _ _ c.in-Err.e);
    after = search rules;
    tallies = rw c.refusal.ensures
        (lookup_fails g.T.W.World.files c.args.caller.now.cache.gate.cut c.args.file
        c.args.caller.now.pass c.texture_d.new.self.pass (Footprint c.args.request.now) c.in-Err.e
        c.in-Err.ensures.leaves.unread c.texture_d.ensures.leaves.same.counts);
  };
  cache = search rules;
  oldest = tt;
}
