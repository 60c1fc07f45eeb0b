use Rattle.std.proofs.Common.{ℕ, length, take, ap, ◌∙◌}
use Rattle.request_lang.specs.Line.{head_of}
use Rattle.short_text.specs.Appending.{Begins}
use Rattle.short_text.proofs.AppendLemmas.{pushes_keep}
use Rattle.request_lang.proofs.line.head_text.Goals as goal

pub returns-in-Err-clause-err : goal.returns-in-Err-clause-err
unfolding Begins
returns-in-Err-clause-err c =
    c.truncate.ensures.items
    ∙ ap (λ (k : ℕ). take k c.push_head.new.out.items) (ap length c.as_slice-before.ensures.value)
    ∙ pushes_keep (head_of c.args.answer.now) c.args.out.now.items c.push_head.new.out.items
    c.push_head.result c.push_head.ensures.text
