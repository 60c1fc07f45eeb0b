-- One more lookup is in range.
use Rattle.std.proofs.Common.{refl, below_more}
use Rattle.texture_sys.proofs.batch.Batch.first_out_of_range.Goals as goal

pub loop-i-preserved : goal.loop-i-preserved
loop-i-preserved c = below_more _ _ c.loop-i.invariant (c.if-not-allow.ensures.0 refl)
