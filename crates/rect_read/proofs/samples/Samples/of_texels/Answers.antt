use Rattle.std.proofs.Common.{refl}
use Rattle.rect_read.proofs.TakenSamples.{taken_alone}
use Rattle.rect_read.proofs.samples.Samples.of_texels.Goals as goal

pub returns-clause-taken : goal.returns-clause-taken
returns-clause-taken c = taken_alone _ _ refl
