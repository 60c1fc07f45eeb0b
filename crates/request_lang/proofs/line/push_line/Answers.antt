use Rattle.std.proofs.Common.{ℕ, List, ◌++◌, ap}
use Rattle.short_text.specs.Number.{fields}
use Rattle.short_text.proofs.AppendLemmas.{pushes_then}
use Rattle.request_lang.proofs.line.push_line.Goals as goal

pub returns-clause-text : goal.returns-clause-text
returns-clause-text c =
    pushes_then _ _ _ _ _ _ _
    (ap (λ (xs : List ℕ). xs ++ fields c.args.numbers.now) c.as_bytes.ensures.value)
    c.in_ok-push_text.ensures.text c.push_numbers.ensures.text
