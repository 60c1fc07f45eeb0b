-- None of the parts so far has the rows.
use Rattle.std.proofs.Common.{◌≡◌, ℕ, ◌<◌, Some}
use Rattle.std.specs.Prelude.{slice_get}
use Rattle.supplied_tap.specs.declared.supply.SuppliedRows.{SuppliedRows}
use Rattle.supplied_tap.specs.SuppliedTap.{HasRows}
use Rattle.supplied_tap.proofs.tap.supplied_rows.Given as goal

abbrev pub invariant-loop-part : goal.invariant-loop-part
invariant-loop-part l = (j : ℕ) (part : SuppliedRows) → slice_get l.parts j ≡ Some part
    → j < l.part-index → ¬ HasRows part l.place l.size
