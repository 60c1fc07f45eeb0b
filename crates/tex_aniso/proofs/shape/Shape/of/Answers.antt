use Rattle.tex_aniso.specs.Shape.{shape_of}
use Rattle.tex_aniso.proofs.shape.Shape.of.Goals as goal

pub returns-clause-value : goal.returns-clause-value
unfolding shape_of
returns-clause-value c = rw (c.at.ensures.value, c.shortened.ensures.value, c.shift-shift.ensures.value)
