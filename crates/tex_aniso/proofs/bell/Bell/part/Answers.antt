use Rattle.std.proofs.Common.{◌-◌, ◌*◌, ◌≤◌, arith}
use Rattle.tex_aniso.specs.Bell.{half_step}
use Rattle.tex_aniso.proofs.BellLemmas.{part_first, part_next, area_more}
use Rattle.tex_aniso.proofs.bell.Bell.part.Goals as goal

pub returns-then-j-eq0-clause-value : goal.returns-then-j-eq0-clause-value
returns-then-j-eq0-clause-value c =
    rw c.area.ensures.value (part_first c.args.self.now.reach c.args.j c.if-j-eq0.true)

pub overflow_sub-result : goal.overflow_sub-result
overflow_sub-result c =
    let bell = c.args.self.now in
    let j = c.args.j in
    let is = c.from-j.ensures in
    let less : (2 * c.from-j.result - 1) * half_step ≤ c.min-end.result = omega arith in
    let within : c.min-end.result ≤ bell.reach = omega arith in
    rw (c.area-2.ensures.value, c.area-3.ensures.value)
    (area_more bell.reach ((2 * c.from-j.result - 1) * half_step) c.min-end.result less within)

pub returns-clause-value : goal.returns-clause-value
returns-clause-value c =
    let some : 1 ≤ c.args.j = omega arith in
    rw (c.area-2.ensures.value, c.area-3.ensures.value, c.min-end.ensures, c.from-j.ensures)
    (part_next c.args.self.now.reach c.args.j some)
