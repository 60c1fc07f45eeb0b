use Rattle.std.proofs.Common.{◌≡◌, ◌+◌, drop}
use Rattle.tex_make.specs.Field.{all_outside, directory_size}
use Rattle.tex_make.proofs.field.directory_size.Given as goal

abbrev pub invariant-loop-field : goal.invariant-loop-field
invariant-loop-field l =
    l.size + all_outside (drop l.field-index l.fields) ≡ directory_size l.fields
