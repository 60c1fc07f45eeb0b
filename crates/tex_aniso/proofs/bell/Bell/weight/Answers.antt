use Rattle.std.proofs.Common.{arith}
use Rattle.tex_aniso.proofs.BellLemmas.{short_part}
use Rattle.tex_aniso.proofs.bell.Bell.weight.Goals as goal

pub overflow_shr-result : goal.overflow_shr-result
overflow_shr-result c = let few = c.args.self.now.few in omega arith

pub overflow_cast-result-2 : goal.overflow_cast-result-2
overflow_cast-result-2 c =
    let bell = c.args.self.now in
    let h = short_part bell.reach c.part.result c.part.ensures.high in
    record { fits = rw bell.is_cut h }
