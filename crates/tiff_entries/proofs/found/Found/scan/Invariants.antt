use Rattle.std.proofs.Common.{◌≡◌, ℕ, ◌+◌, ◌*◌, List}
use Rattle.tiff_format.specs.Form.{entry_bytes}
use Rattle.tiff_format.specs.Bytes.{IsPartAt}
use Rattle.tiff_entries.specs.Entries.{Covers}
use Rattle.tiff_entries.proofs.found.Found.scan.Given as goal

abbrev pub invariant-loop-i : goal.invariant-loop-i
invariant-loop-i l =
    (bytes : List ℕ) (first done : ℕ)
    → l.place.at ≡ first + entry_bytes l.place.form * done → IsPartAt bytes l.place.at l.part
    → Covers l.place.form bytes first done l.fn.self.entries
    → Covers l.place.form bytes first (done + l.i) l.self.entries
