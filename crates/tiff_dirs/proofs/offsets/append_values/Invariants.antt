use Rattle.std.proofs.Common.{◌≡◌, vec_capacity}
use Rattle.tiff_entries.specs.Entries.{part_value}
use Rattle.tiff_dirs.specs.Values.{AppendsNumbers}
use Rattle.tiff_dirs.proofs.offsets.append_values.Given as goal

abbrev pub invariant-loop-k : goal.invariant-loop-k
invariant-loop-k l = record {
  capacity : vec_capacity l.values ≡ vec_capacity l.fn.values;
  appends : AppendsNumbers l.k (part_value l.entry l.part) l.fn.values.items l.values.items;
}
