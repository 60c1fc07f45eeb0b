-- Each file so far has a lock whose tag is its number.
use Rattle.std.proofs.Common.{◌≡◌, ℕ, ◌<◌, length}
use Rattle.std.specs.Prelude.{slice_index}
use Rattle.file_table.proofs.files.record_locks.Given as goal

abbrev pub invariant-loop-file : goal.invariant-loop-file
invariant-loop-file g l = record {
  count : length l.locks.items ≡ l.file;
  tag : (k : ℕ) → k < l.file → slice_index l.locks.items k ≡ k;
}
