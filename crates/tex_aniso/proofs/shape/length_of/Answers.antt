use Rattle.std.proofs.Common.{◌≡◌, ◌+◌, ◌∙◌, ap, refl, to_z, of_z, w64, arith}
use Rattle.std.proofs.lemmas.Int.{to_z-of_z}
use Rattle.tex_aniso.specs.Digits.{root}
use Rattle.tex_aniso.specs.Shape.{square_of}
use Rattle.tex_aniso.proofs.DigitLemmas.{root_is}
use Rattle.tex_aniso.proofs.shape.length_of.Goals as goal

pub returns-clause-value : goal.returns-clause-value
returns-clause-value c =
    let x : to_z w64 (of_z w64 c.args.x) ≡ c.args.x = grind (arith, to_z-of_z) in
    let y : to_z w64 (of_z w64 c.args.y) ≡ c.args.y = grind (arith, to_z-of_z) in
    let is : c.square.result + c.square-2.result ≡ square_of c.args.x + square_of c.args.y =
    rw (rw x at c.square.ensures.value, rw y at c.square-2.ensures.value) refl in
    let of_sum = c.isqrt.ensures in
    root_is c.isqrt.result _ of_sum.square_le of_sum.next_square_gt ∙ ap root is
