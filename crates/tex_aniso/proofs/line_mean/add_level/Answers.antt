use Rattle.std.proofs.Common.{◌<◌, ◌≤◌, arith}
use Rattle.std.proofs.Math.Nat.{mul-le-mul_left}
use Rattle.tex_aniso.proofs.line_mean.add_level.Goals as goal

pub overflow_add-sums : goal.overflow_add-sums
overflow_add-sums c =
    let k = c.loop-c.c in
    let below : k < c.args.n = omega arith in
    let here : k ≤ k = omega arith in
    let old = c.loop-c.invariant.rest k here in
    let room = c.requires.room k in
    let more = mul-le-mul_left c.from.result (c.requires.low k below) in
    omega (arith, old, room, more, c.from.ensures)
