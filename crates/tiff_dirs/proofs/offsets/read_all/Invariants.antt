use Rattle.std.proofs.Common.{ℕ, ◌-◌, ◌≤◌, length, vec_len, vec_capacity}
use Rattle.std.specs.Option.{ForSome}
use Rattle.tiff_format.specs.Field.{entry_value}
use Rattle.tiff_entries.specs.Entries.{IsEntry}
use Rattle.tiff_dirs.specs.Values.{AreFirstValues}
use Rattle.tiff_dirs.proofs.offsets.read_all.Given as goal

abbrev pub invariant-values : goal.invariant-values
invariant-values g l = record {
  within : length l.values.items ≤ l.count;
  reserved : l.count ≤ vec_capacity l.values;
  keeps : g.B.ByteReader.keeps l.fn.b l.b;
  told : ForSome (g.B.ByteReader.bytes l.fn.b)
      (λ bytes. (place : ℕ) → IsEntry bytes place l.entry
      → AreFirstValues (length l.values.items) (entry_value l.entry.form bytes place) l.values.items);
}

abbrev pub decreases-values : goal.decreases-values
decreases-values g l = l.count - vec_len l.values
