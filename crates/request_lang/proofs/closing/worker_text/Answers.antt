use Rattle.std.proofs.Common.{ℕ, length, take, ap, ◌∙◌}
use Rattle.request_lang.specs.Closing.{worker_line}
use Rattle.short_text.proofs.AppendLemmas.{pushes_keep}
use Rattle.short_text.specs.Appending.{Begins}
use Rattle.request_lang.proofs.closing.worker_text.Goals as goal

pub returns-in-Err-clause-err : goal.returns-in-Err-clause-err
unfolding Begins
returns-in-Err-clause-err c =
    c.truncate.ensures.items
    ∙ ap (λ (k : ℕ). take k c.push_worker.new.out.items) (ap length c.as_slice-before.ensures.value)
    ∙ pushes_keep (worker_line c.args.worker c.args.counts) c.args.out.now.items c.push_worker.new.out.items
    c.push_worker.result c.push_worker.ensures.text
