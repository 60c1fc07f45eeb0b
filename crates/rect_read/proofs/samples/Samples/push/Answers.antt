use Rattle.std.proofs.Common.{ℕ, List, ◌++◌, map, ap, sym, ◌∙◌}
use Rattle.std.specs.List.{range_with_len}
use Rattle.piece_samples.specs.Unpacked.{unpacked}
use Rattle.rect_read.specs.RectSamples.{samples_of}
use Rattle.rect_read.proofs.TakenSamples.{taken_alone}
use Rattle.rect_read.proofs.WholeRows.{on_ok}
use Rattle.rect_read.proofs.samples.Samples.push.Goals as goal

pub returns-then-self-eq1-clause-values : goal.returns-then-self-eq1-clause-values
returns-then-self-eq1-clause-values c =
    let places = c.args.self.now.places in
    let one = c.if-self-eq1.true in
    let more = map (unpacked c.args.format.now c.args.bytes.now) (range_with_len 0 c.args.count) in
    on_ok c.push.result
    (λ is. taken_alone places (samples_of c.push.new.self) one ∙ is
    ∙ ap (λ (l : List ℕ). l ++ more) (sym (taken_alone places (samples_of c.args.self.now.values) one)))
    c.push.ensures.values
