use Rattle.std.proofs.Common.{refl, arith}
use Rattle.std.proofs.lemmas.Grind.{common_steps}
use Rattle.unpack.proofs.Pixels.{pixel_more}
use Rattle.unpack.proofs.passes.invert_first.Goals as goal

pub loop-pixel-preserved : goal.loop-pixel-preserved
loop-pixel-preserved c =
    pixel_more _ _ c.loop-pixel.pixel _ _ c.loop-pixel.dst c.requires.some
    (grind (arith, common_steps)) (rw c.greatest-most.ensures refl) c.loop-pixel.invariant
