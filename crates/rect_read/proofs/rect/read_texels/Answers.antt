use Rattle.std.proofs.Common.{◌≡◌, ◌<◌, arith}
use Rattle.tiff_format.specs.Texel.{sample_in}
use Rattle.tile_layout.specs.Kept.{level_in}
use Rattle.tile_layout.specs.Plane.{plane_level}
use Rattle.tile_layout.specs.Texel.{AreTexelsOn}
use Rattle.tile_layout.proofs.PlaneBlocks.{plane_held}
use Rattle.rect_read.specs.RectSamples.{samples_of}
use Rattle.rect_read.specs.declared.texels.RectSamples.{RectSamples}
use Rattle.rect_read.proofs.Leaves.{if_ok}
use Rattle.rect_read.proofs.PlanarSamples.{alone_texels}
use Rattle.rect_read.proofs.rect.read_texels.Goals as goal

pub returns-then-are_bytes-clause-told : goal.returns-then-are_bytes-clause-told
returns-then-are_bytes-clause-told g c = λ bytes told holds.
    let level = level_in c.args.layout.now c.args.level in
    let alone = plane_level level 0 in
    let big = c.args.layout.now.big in
    let one : level.shape.planes ≡ 1 =
    omega (arith, c.planes-planes.ensures.value, c.if-planes-eq1.true) in
    let there : 0 < level.shape.planes = omega (arith, one) in
    if_ok
    (λ (texels : RectSamples). AreTexelsOn (sample_in big bytes alone) alone.shape.channels
    c.args.rect (samples_of texels))
    (λ (texels : RectSamples). AreTexelsOn (sample_in big bytes level) level.shape.channels
    c.args.rect (samples_of texels))
    c.read_chunky.result
    (λ texels are. alone_texels level c.args.rect (samples_of texels) one big bytes are)
    (c.read_chunky.ensures.told bytes told (plane_held level 0 bytes there holds))
