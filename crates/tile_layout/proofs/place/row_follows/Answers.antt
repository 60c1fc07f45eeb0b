use Rattle.std.proofs.Common.{arith}
use Rattle.tiff_format.specs.Shown.{shown, shown_shape}
use Rattle.tile_layout.specs.Plane.{plane_level}
use Rattle.tile_layout.proofs.PlaneBlocks.{each_of}
use Rattle.tile_layout.proofs.BlockLemmas.{sound}
use Rattle.tile_layout.proofs.WholeRowLemmas.{row_ends}
use Rattle.tile_layout.proofs.place.row_follows.Goals as goal

pub overflow_add-end : goal.overflow_add-end
overflow_add-end c =
    let dir = c.args.dir.now in
    let ends = row_ends (plane_level (shown dir) c.args.plane) c.args.rect
    (sound dir c.args.plane c.requires.plane) c.requires.on
    (each_of (shown_shape c.args.dir.now) c.args.plane c.args.rect c.requires.each)
    c.args.above (omega (arith, c.requires.below)) in
    rw (c.place.ensures, c.from.ensures, c.texel_bytes.ensures) (omega (arith, ends))
