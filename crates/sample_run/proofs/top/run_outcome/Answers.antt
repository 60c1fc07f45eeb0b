use Rattle.std.proofs.Common.{map, string_bytes, length, ap, ◌∙◌, arith}
use Rattle.sample_run.proofs.RunLemmas.{ran}
use Rattle.sample_run.proofs.top.run_outcome.Goals as goal

pub returns : goal.returns
returns g c = λ no_fault.
    ran c.args.size (map string_bytes c.args.words.now) c.new-folder.result
    c.run-status.new.folder c.new-feed.result c.run-status.new.feed c.new-written.result.holds
    c.run-status.new.out.holds c.new-written.result.planned.faults
    c.run-status.new.out.planned.faults c.run-status.result c.requires.size
    (omega (arith, ap length c.new-feed.ensures, c.requires.short)) c.requires.words
    (c.new-feed.ensures ∙ c.requires.made) c.new-written.ensures.faults c.new-written.ensures.holds
    no_fault c.new-folder.ensures c.run-status.ensures.runs c.run-status.ensures.complete
