-- The looks so far follow the earlier ones.
use Rattle.supplied_tap.specs.SuppliedTap.{Extends}
use Rattle.supplied_tap.proofs.taking.keep_looks.Given as goal

abbrev pub invariant-loop-seen : goal.invariant-loop-seen
invariant-loop-seen l = Extends l.fn.kept.items l.kept.items
