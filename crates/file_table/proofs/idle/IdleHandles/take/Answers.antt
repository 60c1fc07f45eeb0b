-- The remaining handles are filed under the numbers of their files.
use Rattle.file_table.proofs.IdleLemmas.{AreOwn-pop}
use Rattle.file_table.proofs.idle.IdleHandles.take.Goals as goal

pub invariant_of-self : goal.invariant_of-self
invariant_of-self g c =
    AreOwn-pop g.H.TapHandle.named _ _ _ c.pop.ensures.entries c.self.invariant
