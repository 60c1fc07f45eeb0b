use Rattle.tex_aniso.proofs.LineLemmas.{blended_upto}
use Rattle.tex_aniso.proofs.line_mean.write_blended.Goals as goal

pub mean_of-requires-clause-high : goal.mean_of-requires-clause-high
mean_of-requires-clause-high c =
    let k = c.loop-c.c in
    rw c.blended.ensures
    (blended_upto c.args.fraction _ _ c.args.total c.requires.fraction (c.requires.high.first k)
    (c.requires.high.second k))
