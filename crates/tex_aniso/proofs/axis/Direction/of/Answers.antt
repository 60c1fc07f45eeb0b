use Rattle.tex_aniso.specs.Axis.{direction_of}
use Rattle.tex_aniso.proofs.axis.Direction.of.Goals as goal

pub returns-clause-value : goal.returns-clause-value
unfolding direction_of
returns-clause-value c = rw (c.shortened.ensures.value, c.long.ensures.value)
