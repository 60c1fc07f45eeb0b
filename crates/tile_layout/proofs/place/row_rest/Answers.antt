use Rattle.std.proofs.Common.{◌<◌, ◌%◌, arith}
use Rattle.std.proofs.lemmas.Nat.{mod_below}
use Rattle.tile_layout.proofs.place.row_rest.Goals as goal

-- texel x is in a column of a tile
column : (c : goal.In-Some) → c.args.x % c.in-Some.width < c.in-Some.width
column c =
    let tile = c.args.dir.now.shape_in.tile (c.in-Some.width, c.in-Some.field-0-1) c.in-Some.is in
    mod_below c.args.x c.in-Some.width (omega (arith, tile.0.low))

pub nonzero_rem-result : goal.nonzero_rem-result
nonzero_rem-result c =
    let tile = c.args.dir.now.shape_in.tile (c.in-Some.width, c.in-Some.field-0-1) c.in-Some.is in
    omega (arith, tile.0.low)

pub overflow_sub-result-in-Some : goal.overflow_sub-result-in-Some
overflow_sub-result-in-Some c = omega (arith, column c)

pub returns-in-Some-clause-some : goal.returns-in-Some-clause-some
returns-in-Some-clause-some c = omega (arith, column c)
