use Rattle.std.proofs.Common.{ℕ, Some, arith}
use Rattle.tiff_format.specs.Shown.{shown_shape}
use Rattle.tile_layout.proofs.BlockLemmas.{block_below}
use Rattle.tile_layout.proofs.place.block_in_plane.Goals as goal

pub nonzero_div-y-in-Some : goal.nonzero_div-y-in-Some
nonzero_div-y-in-Some c =
    let tile = c.args.dir.now.shape_in.tile (c.in-Some.width, c.in-Some.height) c.in-Some.is in
    omega (arith, tile.1.low)

pub nonzero_div-x : goal.nonzero_div-x
nonzero_div-x c =
    let tile = c.args.dir.now.shape_in.tile (c.in-Some.width, c.in-Some.height) c.in-Some.is in
    omega (arith, tile.0.low)

pub pieces_over-requires : goal.pieces_over-requires
pieces_over-requires c =
    let tile = c.args.dir.now.shape_in.tile (c.in-Some.width, c.in-Some.height) c.in-Some.is in
    omega (arith, tile.0.low, tile.1.low)

pub returns-in-Some-clause-below : goal.returns-in-Some-clause-below
returns-in-Some-clause-below c =
    let dir = c.args.dir.now in
    let is = c.in-Some.is in
    let tile : ℕ × ℕ = (c.in-Some.width, c.in-Some.height) in
    let below = block_below (shown_shape dir) (Some tile) c.args.x c.args.y
    (rw is at dir.shape_in.tile) dir.shape_in.rows c.requires.across c.requires.down in
    rw (
      c.from-row.ensures,
      c.from-column.ensures,
      c.pieces_over.ensures.value,
      is,
    ) below
