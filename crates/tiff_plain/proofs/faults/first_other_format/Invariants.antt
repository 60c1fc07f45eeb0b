use Rattle.std.proofs.Common.{◌≡◌, ◌==◌, ◌||◌, not, drop, take}
use Rattle.std.specs.List.{find}
use Rattle.tiff_format.specs.DirectoryFault.{samples}
use Rattle.tiff_format.specs.Field.{field_values}
use Rattle.tiff_format.specs.Tag.{sample_format_tag}
use Rattle.tiff_plain.proofs.faults.first_other_format.Given as goal

-- The values so far are 1 or 4.
abbrev pub invariant-loop-i : goal.invariant-loop-i
invariant-loop-i l =
    let values = take (samples l.form l.bytes l.at)
    (field_values l.form l.bytes l.at sample_format_tag) in
    find (λ v. not ((v == 1) || (v == 4))) (drop l.i values)
    ≡ find (λ v. not ((v == 1) || (v == 4))) values
