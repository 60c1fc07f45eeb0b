use Rattle.std.proofs.Common.{◌≡◌, ◌-◌, ◌+◌, ◌*◌, ◌≤◌, vec_len}
use Rattle.std.specs.Option.{ForSome}
use Rattle.tiff_format.specs.Form.{entry_bytes, offset_bytes}
use Rattle.tiff_entries.specs.Entries.{Covers}
use Rattle.tiff_entries.proofs.directory.read_entries.Given as goal

abbrev pub invariant-reads : goal.invariant-reads
invariant-reads g l = record {
  within : l.done ≤ l.count;
  room : vec_len l.buffer ≡ entry_bytes l.form * l.most + offset_bytes l.form;
  keeps : g.B.ByteReader.keeps l.fn.b l.b;
  covers : ForSome (g.B.ByteReader.bytes l.fn.b)
      (λ bytes. Covers l.form bytes l.first.at l.done l.found.entries);
}

abbrev pub decreases-reads : goal.decreases-reads
decreases-reads g l = l.count - l.done
