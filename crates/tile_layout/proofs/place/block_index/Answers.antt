use Rattle.std.proofs.Common.{arith}
use Rattle.std.proofs.lemmas.Nat.{mul-add-lt}
use Rattle.tiff_format.specs.Block.{plane_blocks}
use Rattle.tiff_format.specs.Shown.{shown_shape}
use Rattle.tile_layout.proofs.place.block_index.Goals as goal

pub returns-clause-stored : goal.returns-clause-stored
returns-clause-stored c =
    let dir = c.args.dir.now in
    let below = mul-add-lt c.args.plane (plane_blocks (shown_shape dir)) c.block_in_plane.result
    dir.planes c.requires.plane c.block_in_plane.ensures.below in
    omega (arith, below, dir.offsets_in.count)
