use Rattle.std.proofs.Common.{arith}
use Rattle.tap_reader.proofs.RowPlaces.{rows_lie_below}
use Rattle.tap_reader.proofs.rows.Rows.lie_below.Goals as goal

pub returns-in-Some : goal.returns-in-Some
returns-in-Some c = λ yes.
    let rows = c.args.self.now in
    rows_lie_below rows.at rows.stride rows.row rows.count c.args.len rows.some rows.apart
    c.in-Some.ensures.some
    (omega (arith, c.in-Some.ensures.value, c.ends_below.ensures yes))
