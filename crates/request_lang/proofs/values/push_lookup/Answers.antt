use Rattle.std.proofs.Common.{◌≡◌, ℕ, ◌+◌, List, [], ◌∷◌, ◌++◌, take, set, subst, sym, ap, ◌∙◌}
use Rattle.std.proofs.Common.{append_assoc, arith}
use Rattle.std.proofs.lemmas.List.{take_more_set}
use Rattle.request_lang.specs.Grammar.{line_feed}
use Rattle.short_text.specs.Number.{fields}
use Rattle.short_text.specs.Appending.{Pushes}
use Rattle.short_text.proofs.AppendLemmas.{pushes_then}
use Rattle.request_lang.proofs.values.push_lookup.Goals as goal

pub returns-clause-text : goal.returns-clause-text
returns-clause-text c =
    let word : List ℕ = c.args.word.now in
    let generation : List ℕ = fields (c.args.generation ∷ []) in
    let values : List ℕ = fields c.args.values.now in
    let end : List ℕ = line_feed ∷ [] in
    let room = c.put_values-end.new.room in
    let last = c.put_values-end.result in
    let text : take (last + 1) (set room last line_feed) ≡ generation ++ (values ++ end) =
    take_more_set room last line_feed (omega arith)
    ∙ ap (λ (xs : List ℕ). xs ++ end)
    (c.put_values-end.ensures.written
    ∙ ap (λ (xs : List ℕ). xs ++ values) c.put_values-first.ensures.written)
    ∙ append_assoc generation values end in
    pushes_then _ (generation ++ (values ++ end)) _ _ _ _ _
    (ap (λ (xs : List ℕ). xs ++ (generation ++ (values ++ end))) c.as_bytes.ensures.value
    ∙ sym (append_assoc word generation (values ++ end))
    ∙ sym (append_assoc (word ++ generation) values end))
    c.in_ok-push_text.ensures.text
    (subst (λ (t : List ℕ). Pushes t c.push_text.new.out.items c.push_text-2.new.out.items
    c.push_text-2.result) text c.push_text-2.ensures.text)
