use Rattle.std.proofs.Common.{ℕ, List, [], ◌∷◌, ◌++◌, codes, refl, sym, ◌∙◌, append_assoc, rules}
use Rattle.request_lang.specs.Grammar.{line_feed}
use Rattle.short_text.specs.Number.{fields}
use Rattle.request_lang.specs.Closing.{worker_line, apart_field}
use Rattle.short_text.proofs.AppendLemmas.{pushes_then, pushes_refused, begins_same, begins_on}
use Rattle.request_lang.proofs.closing.push_worker.Goals as goal

pub returns-in_err-push_line-3-clause-text : goal.returns-in_err-push_line-3-clause-text
returns-in_err-push_line-3-clause-text c =
    let old = c.args.out.now.items in
    let first = c.push_line.new.out.items in
    let second = c.push_line-2.new.out.items in
    pushes_refused (worker_line c.args.worker c.args.counts) old second c.push_line-3.new.out.items
    c.from_residual-in_err-push_line-3.result (search rules)
    (begins_on old first second _
    (begins_on old old first _ (begins_same old old refl) c.in_ok-push_line.ensures.text)
    c.in_ok-push_line-2.ensures.text)
    c.in_err-push_line-3.ensures.text

pub returns-in_err-push_apart-clause-text : goal.returns-in_err-push_apart-clause-text
returns-in_err-push_apart-clause-text c =
    let old = c.args.out.now.items in
    let first = c.push_line.new.out.items in
    let second = c.push_line-2.new.out.items in
    let third = c.push_line-3.new.out.items in
    pushes_refused (worker_line c.args.worker c.args.counts) old third c.push_apart.new.out.items
    c.from_residual-in_err-push_apart.result (search rules)
    (begins_on old second third _
    (begins_on old first second _
    (begins_on old old first _ (begins_same old old refl) c.in_ok-push_line.ensures.text)
    c.in_ok-push_line-2.ensures.text)
    c.in_ok-push_line-3.ensures.text)
    c.in_err-push_apart.ensures.text

pub returns-clause-text : goal.returns-clause-text
returns-clause-text c =
    let worker : List ℕ = codes "worker" ++ fields (c.args.worker ∷ []) in
    let needs : List ℕ = codes " needs" ++ fields (c.args.counts.needs ∷ []) in
    let hits : List ℕ = codes " hits" ++ fields (c.args.counts.hits ∷ []) in
    let apart : List ℕ = apart_field c.args.counts.apart in
    let end : List ℕ = line_feed ∷ [] in
    pushes_then worker (needs ++ (hits ++ (apart ++ end))) _ _ _ _ _
    (sym (append_assoc worker needs (hits ++ (apart ++ end)))
    ∙ sym (append_assoc (worker ++ needs) hits (apart ++ end))
    ∙ sym (append_assoc ((worker ++ needs) ++ hits) apart end))
    (rw c.from.ensures at c.in_ok-push_line.ensures.text)
    (pushes_then needs (hits ++ (apart ++ end)) _ _ _ _ _ refl c.in_ok-push_line-2.ensures.text
    (pushes_then hits (apart ++ end) _ _ _ _ _ refl c.in_ok-push_line-3.ensures.text
    (pushes_then apart end _ _ _ _ _ refl c.in_ok-push_apart.ensures.text
    c.push_text.ensures.text)))
