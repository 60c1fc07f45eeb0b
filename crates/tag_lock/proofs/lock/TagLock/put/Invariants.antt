-- The value in hand fits the tag.
use Rattle.tag_lock.proofs.lock.TagLock.put.Given as goal

abbrev pub invariant-loop-failed : goal.invariant-loop-failed
invariant-loop-failed g l = g.F.TagRule.fits l.fn.self l.value
