use Rattle.tex_aniso.proofs.BellLemmas.{reach_upto}
use Rattle.tex_aniso.proofs.bell.reach_of.Goals as goal

pub returns-clause-high : goal.returns-clause-high
returns-clause-high c = reach_upto c.args.major c.args.step c.args.arm c.requires.enough
