-- Each level so far is known.
use Rattle.std.proofs.Common.{◌≡◌, ℕ, ◌<◌, length}
use Rattle.std.specs.Prelude.{slice_index_or}
use Rattle.file_table.specs.declared.known_level.KnownLevel.{KnownLevel}
use Rattle.file_table.specs.Record.{IsLevelOf}
use Rattle.file_table.proofs.record.levels_of.Given as goal

abbrev pub invariant-loop-level : goal.invariant-loop-level
invariant-loop-level l = record {
  count : length l.levels.items ≡ l.level;
  each : (k : ℕ) (d : KnownLevel) → k < l.level
      → IsLevelOf l.file l.generation l.cut l.layout k (slice_index_or l.levels.items k d);
}
