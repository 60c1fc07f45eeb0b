use Rattle.std.proofs.Common.{◌≤◌, map, string_bytes, length, ap, sym, ◌∙◌, arith}
use Rattle.request_lang.specs.Grammar.{max_list_bytes}
use Rattle.sample_run.specs.MadeList as list
use Rattle.sample_run.specs.Summary as line
use Rattle.sample_run.proofs.SampleLemmas.{writes}
use Rattle.sample_run.proofs.top.sample.Goals as goal

pub returns : goal.returns
returns g c =
    let asked = sym c.in-Some.ensures.value in
    let short : length (list.made_list c.in-Some.size.requests) ≤ max_list_bytes =
    omega (arith, c.len.ensures, c.if-len-gt-MAX_LIST_BYTES.false, ap length c.in-Ok.ensures) in
    record {
      samples = writes (map string_bytes c.args.words.now) _ _ _ c.in-Some.size asked
          c.as_bytes.result.now c.in-Ok-answered.outcome.status short c.in-Ok-answered.ensures.status
          (record {
            asked = c.in-Some.size;
            asked_for = asked;
            short = short;
            bytes = c.in-Ok-answered.outcome.written.holds;
            run = c.in-Ok-answered.ensures.run;
            of_bytes = c.as_bytes.ensures.value ∙ c.as_str.ensures.value ∙ c.in-Ok-summary.ensures
                ∙ ap line.summary c.bytes.ensures;
          }) c.put_status-2.ensures;
    }
