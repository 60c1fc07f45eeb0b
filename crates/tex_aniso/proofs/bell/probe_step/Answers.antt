use Rattle.std.proofs.Common.{◌+◌, ◌*◌, ◌≤◌, arith}
use Rattle.tex_aniso.proofs.BellLemmas.{enough_of}
use Rattle.tex_aniso.proofs.bell.probe_step.Goals as goal

pub returns-clause-enough : goal.returns-clause-enough
returns-clause-enough c =
    let is = rw c.from.ensures at c.div_ceil-least.ensures in
    let longer : c.div_ceil-least.result ≤ c.max-2.result = omega arith in
    enough_of (24 * c.args.major) (32 * c.args.arm + 27) c.div_ceil-least.result c.max-2.result
    (omega arith) is longer
