use Rattle.std.proofs.Common.{◌≡◌, ℕ, ◌<◌, false, List, get_or, length}
use Rattle.tiff_format.specs.declared.form.Form.{Form}
use Rattle.tiff_format.specs.DirectoryFault.{is_misshapen}
use Rattle.tiff_entries.specs.Entries.{HasEntries}
use Rattle.tiff_entries.proofs.found.Found.first_misshapen.Given as goal

abbrev pub invariant-loop-tag : goal.invariant-loop-tag
invariant-loop-tag l =
    (bytes : List ℕ) (form : Form) (at : ℕ) → HasEntries form bytes at l.self.entries
    → length bytes ≡ l.file → (k : ℕ)
    → k < l.tag-index → is_misshapen form bytes at (get_or l.wanted k 0) ≡ false
