use Rattle.std.proofs.Common.{◌≡◌, ◌+◌, ◌^◌, ◌<◌, ◌≤◌, max, unsigned_abs, to_z, of_z, w64, arith}
use Rattle.std.proofs.lemmas.Int.{to_z-of_z}
use Rattle.tex_aniso.proofs.DigitLemmas.{digits_few, digits_past, digits_least}
use Rattle.tex_aniso.proofs.AxisLemmas.{shortened_upto, both_some, short_of}
use Rattle.tex_aniso.proofs.axis.Direction.shortened.Goals as goal

pub shorten-requires : goal.shorten-requires
shorten-requires c =
    let few = digits_few 64 c.max-longest.result c.max-longest.type_inv in
    omega (arith, few, c.digits.ensures.value, c.saturating_sub-shift.ensures)

pub shorten-requires-2 : goal.shorten-requires-2
shorten-requires-2 c =
    let few = digits_few 64 c.max-longest.result c.max-longest.type_inv in
    omega (arith, few, c.digits.ensures.value, c.saturating_sub-shift.ensures)

pub returns-clause-x : goal.returns-clause-x
returns-clause-x c =
    let x = to_z w64 (of_z w64 c.args.self.now.x) in
    let past = digits_past 29 c.digits.result c.max-longest.result c.digits.ensures.most in
    let most = rw (← c.saturating_sub-shift.ensures) at past in
    let below : unsigned_abs x < 2 ^ (29 + c.saturating_sub-shift.result) =
    omega (arith, most, c.max-longest.ensures, c.unsigned_abs.ensures.value) in
    let read : to_z w64 (of_z w64 c.shorten.result) ≡ c.shorten.result = grind (arith, to_z-of_z) in
    rw (read, c.shorten.ensures.value)
    (short_of _ (shortened_upto x 29 c.saturating_sub-shift.result below))

pub returns-clause-y : goal.returns-clause-y
returns-clause-y c =
    let y = to_z w64 (of_z w64 c.args.self.now.y) in
    let past = digits_past 29 c.digits.result c.max-longest.result c.digits.ensures.most in
    let most = rw (← c.saturating_sub-shift.ensures) at past in
    let below : unsigned_abs y < 2 ^ (29 + c.saturating_sub-shift.result) =
    omega (arith, most, c.max-longest.ensures, c.unsigned_abs-2.ensures.value) in
    let read : to_z w64 (of_z w64 c.shorten-2.result) ≡ c.shorten-2.result =
    grind (arith, to_z-of_z) in
    rw (read, c.shorten-2.ensures.value)
    (short_of _ (shortened_upto y 29 c.saturating_sub-shift.result below))

pub returns-clause-some : goal.returns-clause-some
returns-clause-some c =
    let v = c.args.self.now in
    let vx : to_z w64 (of_z w64 v.x) ≡ v.x = grind (arith, to_z-of_z) in
    let vy : to_z w64 (of_z w64 v.y) ≡ v.y = grind (arith, to_z-of_z) in
    let across = rw vx at c.unsigned_abs.ensures.value in
    let down = rw vy at c.unsigned_abs-2.ensures.value in
    let longest : c.max-longest.result ≡ max (unsigned_abs v.x) (unsigned_abs v.y) =
    omega (arith, across, down, c.max-longest.ensures) in
    let some : 1 ≤ c.max-longest.result = omega (arith, longest, c.requires.some) in
    let least = digits_least 29 c.max-longest.result some (omega arith) in
    let first = rw (← c.digits.ensures.value, ← c.saturating_sub-shift.ensures) at least in
    let x : to_z w64 (of_z w64 c.shorten.result) ≡ c.shorten.result = grind (arith, to_z-of_z) in
    let y : to_z w64 (of_z w64 c.shorten-2.result) ≡ c.shorten-2.result =
    grind (arith, to_z-of_z) in
    rw (x, y, rw vx at c.shorten.ensures.value, rw vy at c.shorten-2.ensures.value)
    (both_some v.x v.y c.saturating_sub-shift.result (omega (arith, first, longest)))
