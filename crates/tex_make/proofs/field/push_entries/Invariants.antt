use Rattle.std.proofs.Common.{◌≡◌, ◌+◌, ◌++◌, drop}
use Rattle.tex_make.specs.Field.{all_outside, entries_of}
use Rattle.tex_make.proofs.field.push_entries.Given as goal

abbrev pub invariant-loop-field : goal.invariant-loop-field
invariant-loop-field l = record {
  same : l.bytes.items ++ entries_of l.at (drop l.field-index l.fields)
      ≡ l.initial.bytes.items ++ entries_of l.place l.fields;
  short : l.at + all_outside (drop l.field-index l.fields) ≡ l.place + all_outside l.fields;
}
