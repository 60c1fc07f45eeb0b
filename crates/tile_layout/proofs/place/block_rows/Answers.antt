use Rattle.std.proofs.Common.{arith}
use Rattle.tile_layout.proofs.place.block_rows.Goals as goal

pub returns-in-Some-clause-some : goal.returns-in-Some-clause-some
returns-in-Some-clause-some c =
    let tile = c.args.dir.now.shape_in.tile _ c.in-Some.is in
    omega (arith, tile.1.low)
