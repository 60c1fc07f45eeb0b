use Rattle.std.proofs.Common.{ℕ, List, subst}
use Rattle.short_text.specs.Appending.{Pushes}
use Rattle.request_lang.proofs.values.push_part.Goals as goal

pub returns-clause-text : goal.returns-clause-text
returns-clause-text c =
    subst (λ (text : List ℕ). Pushes text c.args.out.now.items c.push_text.new.out.items
    c.push_text.result)
    c.put_values-end.ensures.written c.push_text.ensures.text
