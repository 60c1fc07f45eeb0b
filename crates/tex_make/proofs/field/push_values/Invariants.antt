use Rattle.std.proofs.Common.{◌≡◌, ◌++◌}
use Rattle.tex_make.specs.Field.{number_bytes, number_in}
use Rattle.tex_make.specs.Joined.{joined}
use Rattle.tex_make.proofs.field.push_values.Given as goal

abbrev pub invariant-loop-i : goal.invariant-loop-i
invariant-loop-i l = l.bytes.items ≡ l.initial.bytes.items
    ++ joined (λ i. number_bytes l.field.kind (number_in l.field i)) l.i
