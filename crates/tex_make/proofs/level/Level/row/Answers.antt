use Rattle.std.proofs.Common.{ℕ, List, ◌+◌, ◌*◌, slice_index, ap, ◌∙◌}
use Rattle.tex_make.proofs.Places.{row_sample_is}
use Rattle.tex_make.proofs.level.Level.row.Goals as goal

pub returns-clause-each : goal.returns-clause-each
returns-clause-each c = λ x k across channel.
    let level = c.args.self.now in
    row_sample_is c.deref.result.now x c.min.result level.width level.channels k across channel
    ∙ ap (λ (s : List ℕ). slice_index s ((c.min.result * level.width + x) * level.channels + k))
    c.deref.ensures.value
    ∙ ap (λ (r : ℕ). slice_index level.samples.items ((r * level.width + x) * level.channels + k))
    c.min.ensures
