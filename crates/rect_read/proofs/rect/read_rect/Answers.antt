use Rattle.std.proofs.Common.{◌≡◌, ◌<◌, arith}
use Rattle.tile_layout.specs.Kept.{level_in}
use Rattle.tile_layout.proofs.PlaneBlocks.{plane_held}
use Rattle.rect_read.specs.RectSamples.{samples_of}
use Rattle.rect_read.proofs.PlanarSamples.{alone_texels}
use Rattle.rect_read.proofs.rect.read_rect.Goals as goal

pub returns-in_ok-texels-clause-told : goal.returns-in_ok-texels-clause-told
returns-in_ok-texels-clause-told g c = λ bytes told holds.
    let level = level_in c.args.layout.now c.args.level in
    let one : level.shape.planes ≡ 1 =
    omega (arith, c.planes-planes.ensures.value, c.if-planes-eq1.true) in
    let there : 0 < level.shape.planes = omega (arith, one) in
    rw c.into_shorts.ensures (alone_texels level c.args.rect (samples_of c.in_ok-texels.texels) one
    c.args.layout.now.big bytes
    (c.in_ok-texels.ensures.told bytes told (plane_held level 0 bytes there holds)))
