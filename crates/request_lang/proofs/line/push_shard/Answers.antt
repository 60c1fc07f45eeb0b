use Rattle.std.proofs.Common.{[], ◌∷◌, refl}
use Rattle.short_text.specs.Number.{fields, numbers_behind}
use Rattle.request_lang.specs.Line.{comma}
use Rattle.short_text.proofs.AppendLemmas.{pushes_then}
use Rattle.request_lang.proofs.line.push_shard.Goals as goal

pub returns-clause-text : goal.returns-clause-text
returns-clause-text c =
    let shard = c.args.shard.now in
    pushes_then (fields (c.from.result ∷ []))
    (numbers_behind comma (c.from-2.result ∷ shard.loose ∷ shard.share ∷ [])) _ _ _ _ _
    (rw (c.from.ensures, c.from-2.ensures) refl)
    c.in_ok-push_numbers.ensures.text c.push_numbers-2.ensures.text
