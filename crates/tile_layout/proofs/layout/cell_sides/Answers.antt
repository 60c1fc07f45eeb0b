use Rattle.std.proofs.Common.{arith}
use Rattle.tile_layout.proofs.layout.cell_sides.Goals as goal

pub returns-in-Some-clause-across : goal.returns-in-Some-clause-across
returns-in-Some-clause-across c = λ side le.
    let is = c.args.dir.now.shape_in.tile c.in-Some.sides c.in-Some.is in
    record {
      some = omega (arith, is.0.low);
      high = is.0.high;
      long = λ short. omega (arith, is.0.low);
      even = λ cut. omega (arith, is.0.multiple);
    }

pub returns-in-Some-clause-down : goal.returns-in-Some-clause-down
returns-in-Some-clause-down c = λ side le.
    let is = c.args.dir.now.shape_in.tile c.in-Some.sides c.in-Some.is in
    record {
      some = omega (arith, is.1.low);
      high = is.1.high;
      long = λ short. omega (arith, is.1.low);
      even = λ cut. omega (arith, is.1.multiple);
    }
