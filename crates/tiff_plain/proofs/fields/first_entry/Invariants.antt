use Rattle.std.proofs.Common.{◌≡◌, ◌+◌, ◌-◌, ◌*◌}
use Rattle.tiff_format.specs.Field.{first_entry}
use Rattle.tiff_format.specs.Form.{entry_bytes}
use Rattle.tiff_plain.proofs.fields.first_entry.Given as goal

-- The entries so far do not have the tag.
abbrev pub invariant-loop-i : goal.invariant-loop-i
invariant-loop-i l =
    first_entry l.form l.tag l.bytes (l.place + entry_bytes l.form * l.i) (l.n - l.i)
    ≡ first_entry l.form l.tag l.bytes l.place l.n
