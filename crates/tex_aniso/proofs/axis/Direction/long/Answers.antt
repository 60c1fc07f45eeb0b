use Rattle.std.proofs.Common.{◌≡◌, to_z, of_z, w64, ◌∙◌, arith}
use Rattle.std.proofs.lemmas.Int.{to_z-of_z}
use Rattle.tex_aniso.proofs.AxisLemmas.{long_is}
use Rattle.tex_aniso.proofs.axis.Direction.long.Goals as goal

pub returns-clause-value : goal.returns-clause-value
returns-clause-value c =
    let shape = c.args.shape.now in
    let e : to_z w64 (of_z w64 shape.e) ≡ shape.e = grind (arith, to_z-of_z) in
    let f : to_z w64 (of_z w64 shape.f) ≡ shape.f = grind (arith, to_z-of_z) in
    let g : to_z w64 (of_z w64 shape.g) ≡ shape.g = grind (arith, to_z-of_z) in
    let o : to_z w64 (of_z w64 shape.o) ≡ shape.o = grind (arith, to_z-of_z) in
    let ef : to_z w64 (of_z w64 c.product.result) ≡ c.product.result = grind (arith, to_z-of_z) in
    let og : to_z w64 (of_z w64 c.product-2.result) ≡ c.product-2.result =
    grind (arith, to_z-of_z) in
    let eg : to_z w64 (of_z w64 c.product-3.result) ≡ c.product-3.result =
    grind (arith, to_z-of_z) in
    let fo : to_z w64 (of_z w64 c.product-4.result) ≡ c.product-4.result =
    grind (arith, to_z-of_z) in
    let cross : to_z w64 (of_z w64 c.difference-c.result) ≡ c.difference-c.result =
    grind (arith, to_z-of_z) in
    let dot : to_z w64 (of_z w64 c.sum-d.result) ≡ c.sum-d.result = grind (arith, to_z-of_z) in
    let by = rw (cross, dot) at c.by.ensures.value in
    by
    ∙ long_is shape _ _ _ _ _ _ (rw (e, f) at c.product.ensures.value)
    (rw (o, g) at c.product-2.ensures.value) (rw (e, g) at c.product-3.ensures.value)
    (rw (f, o) at c.product-4.ensures.value) (rw (ef, og) at c.difference-c.ensures.value)
    (rw (eg, fo) at c.sum-d.ensures.value)
