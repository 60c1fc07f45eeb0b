use Rattle.std.proofs.Common.{◌≡◌, ℕ, ◌-◌, ◌*◌, ◌<◌, ◌≤◌, true, vec_len}
use Rattle.std.specs.Option.{ForSome}
use Rattle.tiff_format.specs.Field.{entry_value, type_size}
use Rattle.tiff_entries.specs.Entries.{IsEntry}
use Rattle.tiff_dirs.specs.Values.{is_allowed}
use Rattle.tiff_dirs.proofs.sample_fields.SampleField.other_of_entry.Given as goal

abbrev pub invariant-blocks-2 : goal.invariant-blocks-2
invariant-blocks-2 g l = record {
  within : l.done ≤ l.count;
  room : vec_len l.buffer ≡ type_size l.entry.form l.entry.kind * l.most;
  keeps : g.B.ByteReader.keeps l.fn.b l.b;
  told : ForSome (g.B.ByteReader.bytes l.fn.b)
      (λ bytes. (place : ℕ) → IsEntry bytes place l.entry → (k : ℕ) → k < l.done
      → is_allowed l.self (entry_value l.entry.form bytes place k) ≡ true);
}

abbrev pub decreases-blocks-2 : goal.decreases-blocks-2
decreases-blocks-2 g l = l.count - l.done
