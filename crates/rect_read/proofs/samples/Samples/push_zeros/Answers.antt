use Rattle.std.proofs.Common.{ℕ, List, ◌++◌, replicate, ap, sym, ◌∙◌}
use Rattle.rect_read.specs.RectSamples.{samples_of}
use Rattle.rect_read.proofs.TakenSamples.{taken_alone}
use Rattle.rect_read.proofs.WholeRows.{on_ok}
use Rattle.rect_read.proofs.samples.Samples.push_zeros.Goals as goal

pub returns-then-self-eq1-clause-values : goal.returns-then-self-eq1-clause-values
returns-then-self-eq1-clause-values c =
    let places = c.args.self.now.places in
    let one = c.if-self-eq1.true in
    let zeros = replicate c.args.n 0 in
    on_ok c.push_zeros.result
    (λ is. taken_alone places (samples_of c.push_zeros.new.self) one ∙ is
    ∙ ap (λ (l : List ℕ). l ++ zeros) (sym (taken_alone places (samples_of c.args.self.now.values) one)))
    c.push_zeros.ensures.values
