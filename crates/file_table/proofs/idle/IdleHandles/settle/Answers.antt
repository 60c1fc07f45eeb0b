-- The settled handle is filed under the number of its file.
use Rattle.file_table.proofs.IdleLemmas.{AreOwn-push}
use Rattle.file_table.proofs.idle.IdleHandles.settle.Goals as goal

pub invariant_of-self : goal.invariant_of-self
invariant_of-self g c =
    AreOwn-push g.H.TapHandle.named _ _ _ _ _ c.push.ensures.entries c.push.ensures.err
    c.self.invariant c.file-file.ensures
