use Rattle.std.proofs.Common.{ℕ, List, [], ◌∷◌, ◌++◌, codes, refl, sym, append_assoc}
use Rattle.request_lang.specs.Grammar.{line_feed}
use Rattle.short_text.specs.Number.{fields}
use Rattle.short_text.proofs.AppendLemmas.{pushes_then}
use Rattle.request_lang.proofs.closing.push_total.Goals as goal

pub returns-clause-text : goal.returns-clause-text
returns-clause-text c =
    let all : List ℕ = codes "total" ++ fields (c.args.total ∷ []) in
    let refused : List ℕ = codes " refused" ++ fields (c.args.refused ∷ []) in
    let end : List ℕ = line_feed ∷ [] in
    pushes_then all (refused ++ end) _ _ _ _ _ (sym (append_assoc all refused end))
    c.in_ok-push_line.ensures.text
    (pushes_then refused end _ _ _ _ _ refl c.in_ok-push_line-2.ensures.text
    c.push_text.ensures.text)
