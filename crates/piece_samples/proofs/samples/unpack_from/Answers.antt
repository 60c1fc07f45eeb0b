use Rattle.std.proofs.Common.{◌+◌, ◌-◌, ◌≤◌}
use Rattle.std.proofs.lemmas.List.Elements.{All-from_get_or}
use Rattle.tiff_format.specs.Texel.{greatest_sample}
use Rattle.piece_samples.proofs.LowSamples.{part_low}
use Rattle.piece_samples.proofs.samples.unpack_from.Goals as goal

pub returns-clause-low : goal.returns-clause-low
returns-clause-low c = λ fit.
    let depth = c.args.format.now.depth in
    part_low depth c.args.from (c.args.from + c.args.count - c.args.from) c.args.samples.now
    c.unpack_samples.new.samples fit
    (All-from_get_or (λ s. s ≤ greatest_sample depth) c.unpack_samples.new.samples 0
    c.unpack_samples.ensures.low)
