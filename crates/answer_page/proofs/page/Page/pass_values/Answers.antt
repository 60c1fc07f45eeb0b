use Rattle.std.proofs.Common.{◌≡◌, [], ◌++◌, take, drop, refl}
use Rattle.std.proofs.lemmas.List.{take-append-drop}
use Rattle.short_text.specs.Number.{fields}
use Rattle.short_text.proofs.AppendLemmas.{one_part}
use Rattle.answer_page.specs.Page.{sink_of, outgoing}
use Rattle.answer_page.proofs.Passing.{none_passed, passes_more, rest_longer}
use Rattle.answer_page.proofs.page.Page.pass_values.Goals as goal

pub parts-init : goal.parts-init
parts-init g c = record {
  front = [];
  split = refl;
  passed = none_passed (outgoing g.O.Sink c.args.self.now c.args.out.now);
}

pub returns-in-Err : goal.returns-in-Err
returns-in-Err g c =
    rest_longer c.parts.invariant.front (fields c.parts.rest.now) (fields c.args.values.now)
    (outgoing g.O.Sink c.args.self.now c.args.out.now)
    (outgoing g.O.Sink c.parts.self c.parts.out) (sink_of g.O.Sink c.pass_part.new.out)
    c.parts.invariant.split c.parts.invariant.passed c.in-Err.ensures

pub parts-preserved : goal.parts-preserved
parts-preserved g c =
    let part = c.split_at.result.0.now in
    let whole : take c.min.result c.parts.rest.now ++ drop c.min.result c.parts.rest.now
    ≡ c.parts.rest.now = take-append-drop c.min.result c.parts.rest.now in
    record {
      front = c.parts.invariant.front ++ fields part;
      split = one_part c.parts.invariant.front part _ c.parts.rest.now _ _
          c.parts.invariant.split (cc) refl;
      passed = passes_more c.parts.invariant.front (fields part)
          (outgoing g.O.Sink c.args.self.now c.args.out.now)
          (outgoing g.O.Sink c.parts.self c.parts.out)
          (outgoing g.O.Sink c.pass_part.new.self c.pass_part.new.out)
          c.parts.invariant.passed c.in_default.ensures;
    }
