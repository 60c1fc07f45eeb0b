use Rattle.std.proofs.Common.{◌≡◌, to_z, of_z, w64, arith}
use Rattle.std.proofs.lemmas.Int.{to_z-of_z}
use Rattle.tex_aniso.proofs.AxisLemmas.{product_read, product_upto}
use Rattle.tex_aniso.proofs.axis.product.Goals as goal

pub returns-clause-value : goal.returns-clause-value
returns-clause-value c =
    let x : to_z w64 (of_z w64 c.args.x) ≡ c.args.x = grind (arith, to_z-of_z) in
    let y : to_z w64 (of_z w64 c.args.y) ≡ c.args.y = grind (arith, to_z-of_z) in
    rw (x, y) (product_read c.args.x c.args.y c.requires.x c.requires.y)

pub returns-clause-in_range : goal.returns-clause-in_range
returns-clause-in_range c =
    rw (returns-clause-value c) (product_upto c.args.x c.args.y c.requires.x c.requires.y)
