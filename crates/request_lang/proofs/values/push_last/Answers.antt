use Rattle.std.proofs.Common.{◌≡◌, ℕ, ◌+◌, List, [], ◌∷◌, ◌++◌, take, set, subst, ap, ◌∙◌, arith}
use Rattle.std.proofs.lemmas.List.{take_more_set}
use Rattle.request_lang.specs.Grammar.{line_feed}
use Rattle.short_text.specs.Appending.{Pushes}
use Rattle.request_lang.proofs.values.push_last.Goals as goal

pub returns-clause-text : goal.returns-clause-text
returns-clause-text c =
    let room = c.put_values-end.new.room in
    let end = c.put_values-end.result in
    subst (λ (text : List ℕ). Pushes text c.args.out.now.items c.push_text.new.out.items
    c.push_text.result)
    (take_more_set room end line_feed (omega arith)
    ∙ ap (λ (text : List ℕ). text ++ line_feed ∷ []) c.put_values-end.ensures.written)
    c.push_text.ensures.text
