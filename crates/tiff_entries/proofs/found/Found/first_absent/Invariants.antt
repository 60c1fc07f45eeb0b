use Rattle.std.proofs.Common.{◌≡◌, ℕ, ◌<◌, false, not, List, get_or}
use Rattle.tiff_format.specs.declared.form.Form.{Form}
use Rattle.tiff_format.specs.Field.{has_field}
use Rattle.tiff_entries.specs.Entries.{HasEntries}
use Rattle.tiff_entries.proofs.found.Found.first_absent.Given as goal

abbrev pub invariant-loop-tag : goal.invariant-loop-tag
invariant-loop-tag l =
    (bytes : List ℕ) (form : Form) (at : ℕ) → HasEntries form bytes at l.self.entries → (k : ℕ)
    → k < l.tag-index → not (has_field form bytes at (get_or l.wanted k 0)) ≡ false
