use Rattle.std.proofs.Common.{◌+◌, ◌^◌, arith}
use Rattle.std.proofs.lemmas.Nat.{mul-le}
use Rattle.tex_aniso.proofs.LevelLemmas.{pow_upto}
use Rattle.tex_aniso.proofs.shape.Shape.major.Goals as goal

pub returns-clause-high : goal.returns-clause-high
returns-clause-high c =
    let shape = c.args.self.now in
    let range = c.requires in
    let power = pow_upto shape.shift 20 range.shift in
    let product = mul-le (shape.q + shape.r) (2 ^ shape.shift) (2 ^ 32) (2 ^ 20) (omega arith) power in
    omega (arith, c.max.ensures, product)
