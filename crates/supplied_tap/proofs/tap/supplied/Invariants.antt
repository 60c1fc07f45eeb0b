-- None of the parts so far has the bytes.
use Rattle.std.proofs.Common.{◌≡◌, ℕ, ◌<◌, Some}
use Rattle.std.specs.Prelude.{slice_get}
use Rattle.supplied_tap.specs.declared.supply.SuppliedBytes.{SuppliedBytes}
use Rattle.supplied_tap.specs.SuppliedTap.{Covers}
use Rattle.supplied_tap.proofs.tap.supplied.Given as goal

abbrev pub invariant-loop-part : goal.invariant-loop-part
invariant-loop-part l = (j : ℕ) (part : SuppliedBytes) → slice_get l.parts j ≡ Some part
    → j < l.part-index → ¬ Covers part l.handle.file l.handle.generation l.at l.size
