use Rattle.std.proofs.Common.{◌≡◌, ℕ, ◌<◌, true}
use Rattle.tiff_dirs.specs.Values.{is_allowed}
use Rattle.tiff_entries.specs.Entries.{part_value}
use Rattle.tiff_dirs.proofs.sample_fields.SampleField.other_among.Given as goal

abbrev pub invariant-loop-k : goal.invariant-loop-k
invariant-loop-k l =
    (k : ℕ) → k < l.k → is_allowed l.self (part_value l.entry l.part k) ≡ true
