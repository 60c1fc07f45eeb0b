use Rattle.tex_aniso.proofs.BellLemmas.{area_upto}
use Rattle.tex_aniso.proofs.bell.Bell.area.Goals as goal

pub returns-clause-high : goal.returns-clause-high
returns-clause-high c = area_upto c.args.self.now.reach c.args.x c.requires
