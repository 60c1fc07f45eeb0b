use Rattle.std.proofs.Common.{arith}
use Rattle.tiff_plain.proofs.texels.texels_before.Goals as goal

pub remainder-requires : goal.remainder-requires
remainder-requires c =
    let sides = c.requires.tile (c.in-Some.tile_width, c.in-Some.tile_height) c.in-Some.is in
    omega (arith, sides.1.low)

pub remainder-requires-in-Some : goal.remainder-requires-in-Some
remainder-requires-in-Some c =
    let sides = c.requires.tile (c.in-Some.tile_width, c.in-Some.tile_height) c.in-Some.is in
    omega (arith, sides.0.low)

pub place_in_rows-requires : goal.place_in_rows-requires
place_in_rows-requires c =
    let sides = c.requires.tile (c.in-Some.tile_width, c.in-Some.tile_height) c.in-Some.is in
    sides.0.high
