use Rattle.std.proofs.Common.{ℕ, List, [], ◌∷◌, ◌++◌, sym, ap, ◌∙◌, append_assoc}
use Rattle.request_lang.specs.Grammar.{line_feed}
use Rattle.short_text.specs.Number.{fields}
use Rattle.request_lang.specs.Line.{head_of}
use Rattle.short_text.proofs.AppendLemmas.{pushes_then}
use Rattle.request_lang.proofs.line.push_other_line.Goals as goal

pub returns-clause-text : goal.returns-clause-text
returns-clause-text c =
    let head : List ℕ = head_of c.args.answer.now in
    let values : List ℕ = fields c.values.result.now in
    let end : List ℕ = line_feed ∷ [] in
    pushes_then head (values ++ end) _ _ _ _ _
    (sym (append_assoc head values end)
    ∙ ap (λ (vs : List ℕ). (head ++ fields vs) ++ end) c.values.ensures)
    c.in_ok-push_head.ensures.text c.push_last.ensures.text
