use Rattle.std.proofs.Common.{◌≡◌, ◌++◌, drop}
use Rattle.std.specs.List.{flat_map}
use Rattle.tex_make.specs.Field.{outside_bytes}
use Rattle.tex_make.proofs.field.push_outside.Given as goal

abbrev pub invariant-loop-field : goal.invariant-loop-field
invariant-loop-field l =
    l.bytes.items ++ flat_map outside_bytes (drop l.field-index l.fields)
    ≡ l.initial.bytes.items ++ flat_map outside_bytes l.fields
