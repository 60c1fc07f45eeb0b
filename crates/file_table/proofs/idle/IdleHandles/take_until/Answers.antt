-- The remaining handles are filed under the numbers of their files, and so was the one taken out.
use Rattle.std.proofs.Common.{rules}
use Rattle.file_table.proofs.IdleLemmas.{AreOwn-pop, taken_is_own}
use Rattle.file_table.proofs.idle.IdleHandles.take_until.Goals as goal

pub invariant_of-self : goal.invariant_of-self
invariant_of-self g c =
    AreOwn-pop g.H.TapHandle.named _ _ _ c.pop.ensures.entries c.self.invariant

pub returns-clause-own : goal.returns-clause-own
returns-clause-own g c =
    taken_is_own g.H.TapHandle.named _ _ _ _ c.pop.ensures.value c.self.invariant
    (search rules)
