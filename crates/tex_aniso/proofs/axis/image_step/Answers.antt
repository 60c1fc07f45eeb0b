use Rattle.std.proofs.Common.{◌≡◌, to_z, of_z, w64, ◌∙◌, arith}
use Rattle.std.proofs.lemmas.Int.{to_z-of_z}
use Rattle.tex_aniso.proofs.AxisLemmas.{along_of, unit_read, unit_fits}
use Rattle.tex_aniso.proofs.axis.image_step.Goals as goal

pub overflow_mul-texels : goal.overflow_mul-texels
overflow_mul-texels c =
    let ask = c.requires in
    let along = along_of c.args.step c.args.part c.args.long c.quotient-texels.result ask.short ask.part
    ask.some ask.within c.quotient-texels.ensures in
    unit_fits c.quotient-texels.result c.args.step ask.short along.high

pub returns : goal.returns
returns c =
    let ask = c.requires in
    let along = along_of c.args.step c.args.part c.args.long c.quotient-texels.result ask.short ask.part
    ask.some ask.within c.quotient-texels.ensures in
    let read : to_z w64 (of_z w64 c.quotient.result) ≡ c.quotient.result = grind (arith, to_z-of_z) in
    let whole = rw (unit_read c.quotient-texels.result c.args.step ask.short along.high, along.value)
    at c.quotient.ensures in
    read ∙ whole
