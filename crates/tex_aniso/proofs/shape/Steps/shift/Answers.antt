use Rattle.std.proofs.Common.{rules, ◌^◌, ◌<◌, arith}
use Rattle.tex_aniso.specs.Digits.{magnitude}
use Rattle.tex_aniso.proofs.DigitLemmas.{digits_few, digits_past, read64}
use Rattle.tex_aniso.proofs.shape.Steps.shift.Goals as goal

pub returns-clause-few : goal.returns-clause-few
returns-clause-few c =
    let below : c.max.result < 2 ^ 49 = search rules in
    omega (arith, digits_few 49 c.max.result below, c.digits.ensures.value, c.saturating_sub.ensures)

pub returns-clause-enough : goal.returns-clause-enough
returns-clause-enough c =
    let steps = c.args.self.now in
    let past = digits_past 29 c.digits.result c.max.result c.digits.ensures.most in
    let most = rw (← c.saturating_sub.ensures) at past in
    let range = c.requires in
    let ux : magnitude steps.ux < 2 ^ 63 = omega arith in
    let vx : magnitude steps.vx < 2 ^ 63 = omega arith in
    let uy : magnitude steps.uy < 2 ^ 63 = omega arith in
    let vy : magnitude steps.vy < 2 ^ 63 = omega arith in
    let across = rw (read64 steps.ux ux) at c.magnitude.ensures in
    let across_too = rw (read64 steps.vx vx) at c.magnitude-2.ensures in
    let down = rw (read64 steps.uy uy) at c.magnitude-3.ensures in
    let down_too = rw (read64 steps.vy vy) at c.magnitude-4.ensures in
    record {
      ux = omega arith;
      vx = omega arith;
      uy = omega arith;
      vy = omega arith;
    }
