use Rattle.std.proofs.Common.{◌≡◌, ℕ, ◌<◌, eqb, get_or, false}
use Rattle.tiff_entries.specs.Entries.{tags}
use Rattle.tiff_entries.proofs.found.Found.entry.Given as goal

abbrev pub invariant-loop-t : goal.invariant-loop-t
invariant-loop-t l = (t : ℕ) → t < l.t → eqb l.tag (get_or tags t 0) ≡ false
