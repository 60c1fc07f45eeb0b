use Rattle.std.proofs.Common.{sym}
use Rattle.tex_aniso.proofs.LevelLemmas.{lod_is}
use Rattle.tex_aniso.proofs.footprint.lod_of.Goals as goal

pub returns : goal.returns
returns c =
    let level = c.ilog2-level.ensures in
    rw c.from.ensures
    (sym (lod_is c.ilog2-level.result c.args.length level.power_le level.next_power_gt))
