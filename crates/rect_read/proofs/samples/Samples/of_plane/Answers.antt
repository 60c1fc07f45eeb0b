use Rattle.rect_read.proofs.TakenSamples.{taken_among}
use Rattle.rect_read.proofs.samples.Samples.of_plane.Goals as goal

pub returns-clause-taken : goal.returns-clause-taken
returns-clause-taken c = taken_among _ _ c.requires.several
