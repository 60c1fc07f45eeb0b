use Rattle.std.proofs.Common.{ℕ, length, take, ap, ◌∙◌}
use Rattle.request_lang.specs.Line.{line_of}
use Rattle.short_text.specs.Appending.{Begins}
use Rattle.short_text.proofs.AppendLemmas.{pushes_keep}
use Rattle.request_lang.proofs.line.short_line_text.Goals as goal

pub returns-in-Err-clause-err : goal.returns-in-Err-clause-err
unfolding Begins
returns-in-Err-clause-err c =
    c.truncate.ensures.items
    ∙ ap (λ (k : ℕ). take k c.push_short_line.new.out.items)
    (ap length c.as_slice-before.ensures.value)
    ∙ pushes_keep (line_of c.args.answer.now) c.args.out.now.items c.push_short_line.new.out.items
    c.push_short_line.result c.push_short_line.ensures.text
