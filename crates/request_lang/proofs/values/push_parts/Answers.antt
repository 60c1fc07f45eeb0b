use Rattle.std.proofs.Common.{◌≡◌, ◌++◌, take, drop, arith}
use Rattle.std.proofs.lemmas.List.{take-append-drop}
use Rattle.short_text.proofs.AppendLemmas.{pushes_refused, begins_on, one_part}
use Rattle.request_lang.proofs.values.push_parts.Goals as goal

pub returns-in_err-push_part : goal.returns-in_err-push_part
returns-in_err-push_part c =
    pushes_refused _ _ c.parts.out.items _ _ c.from_residual.ensures.0 c.parts.invariant.kept
    c.in_err-push_part.ensures.text

pub parts-preserved : goal.parts-preserved
parts-preserved c =
    let whole : take c.min.result c.parts.rest.now ++ drop c.min.result c.parts.rest.now
    ≡ c.parts.rest.now = take-append-drop c.min.result c.parts.rest.now in
    record {
      pushed = one_part c.parts.out.items c.split_at.result.0.now _ c.parts.rest.now _ _
          c.parts.invariant.pushed (cc) c.in_ok-push_part.ensures.text;
      kept = begins_on _ c.parts.out.items _ _ c.parts.invariant.kept c.in_ok-push_part.ensures.text;
      same_room = omega arith;
    }
