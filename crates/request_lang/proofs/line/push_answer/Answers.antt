use Rattle.std.proofs.Common.{ℕ, List, ◌++◌, ap}
use Rattle.short_text.specs.Number.{fields}
use Rattle.request_lang.specs.Line.{head_of}
use Rattle.short_text.proofs.AppendLemmas.{pushes_then}
use Rattle.request_lang.proofs.line.push_answer.Goals as goal

pub returns : goal.returns
returns c =
    pushes_then _ _ _ _ _ _ _
    (ap (λ (vs : List ℕ). head_of c.args.answer.now ++ fields vs) c.values.ensures)
    c.in_ok-push_head.ensures.text c.push_values.ensures
