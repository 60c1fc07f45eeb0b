use Rattle.std.proofs.Common.{ℕ, length, take, ap, ◌∙◌}
use Rattle.request_lang.specs.Closing.{total_line}
use Rattle.short_text.proofs.AppendLemmas.{pushes_keep}
use Rattle.short_text.specs.Appending.{Begins}
use Rattle.request_lang.proofs.closing.total_text.Goals as goal

pub returns-in-Err-clause-err : goal.returns-in-Err-clause-err
unfolding Begins
returns-in-Err-clause-err c =
    c.truncate.ensures.items
    ∙ ap (λ (k : ℕ). take k c.push_total.new.out.items) (ap length c.as_slice-before.ensures.value)
    ∙ pushes_keep (total_line c.args.total c.args.refused) c.args.out.now.items c.push_total.new.out.items
    c.push_total.result c.push_total.ensures.text
