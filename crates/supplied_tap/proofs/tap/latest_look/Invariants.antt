-- None of the looks from behind so far is one at the file that is new enough.
use Rattle.std.proofs.Common.{◌≡◌, ℕ, ◌+◌, ◌<◌, ◌≤◌, Some, length}
use Rattle.std.specs.Prelude.{slice_get}
use Rattle.supplied_tap.specs.declared.supply.FileVersion.{FileVersion}
use Rattle.supplied_tap.proofs.tap.latest_look.Given as goal

abbrev pub invariant-looks : goal.invariant-looks
invariant-looks l = record {
  all : l.count ≡ length l.looks;
  so_far : (j : ℕ) (look : FileVersion) → slice_get l.looks j ≡ Some look → l.count ≤ j + l.k
      → look.file ≡ l.file → look.generation < l.least;
}
