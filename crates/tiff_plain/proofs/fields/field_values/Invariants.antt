use Rattle.std.proofs.Common.{◌≡◌, take}
use Rattle.tiff_format.specs.Field.{field_values}
use Rattle.tiff_plain.proofs.fields.field_values.Given as goal

-- The values so far.
abbrev pub invariant-loop-i : goal.invariant-loop-i
invariant-loop-i l = l.values.items ≡ take l.i (field_values l.form l.bytes l.at l.tag)
