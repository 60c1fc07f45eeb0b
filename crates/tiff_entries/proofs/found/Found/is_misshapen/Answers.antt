use Rattle.std.proofs.Common.{◌∙◌, sym, ap, not, ℕ}
use Rattle.tiff_entries.specs.Entries.{is_shaped}
use Rattle.tiff_entries.proofs.FieldValues.{misshapen_is}
use Rattle.tiff_entries.proofs.found.Found.is_misshapen.Goals as goal

pub returns-in-Some : goal.returns-in-Some
returns-in-Some c = λ bytes form at has long.
    ap not c.has_shape.ensures
    ∙ ap (λ (n : ℕ). not (is_shaped n c.in-Some.entry)) (sym long)
    ∙ misshapen_is form bytes at c.args.tag c.in-Some.entry (c.in-Some.ensures bytes form at has)
