-- What does the result of a call say about the faults of a file, and what does the call leave of the
-- reader?
use Rattle.std.specs.Prelude.{◌≡◌, ℕ, List, Option, Some, None, Result, Ok, Err, ⊤}
use Rattle.tiff_format.specs.declared.form.Form.{Form}
use Rattle.tiff_entries.specs.declared.entry.Entry.{Entry}
use Rattle.tiff_format.specs.declared.fault.TiffFault.{TiffFault}
use Rattle.tiff_entries.specs.declared.error.DirsError.{DirsError}
use Rattle.tiff_entries.specs.declared.error.DirsError.TheVariants.{Fault, Reader, NoMemory}
use Rattle.tiff_entries.specs.Entries.{HasEntries}

-- for a call that reads: it succeeds if there is no fault, with a right answer; a fault that it
-- reports is the right one
abbrev pub Finds : {E T : Type 0} → Option TiffFault → (T → Type 0) → Result T (DirsError E)
    → Type 0
Finds fault view (Ok x) = (fault ≡ None) × view x
Finds fault view (Err (Fault f)) = fault ≡ Some f
Finds fault view (Err (Reader e)) = ⊤
Finds fault view (Err NoMemory) = ⊤

-- for a check that reads nothing: it succeeds if there is no fault, and otherwise reports the right
-- one
abbrev pub Tests : {T : Type 0} → Option TiffFault → (T → Type 0) → Result T TiffFault → Type 0
Tests fault view (Ok x) = (fault ≡ None) × view x
Tests fault view (Err f) = fault ≡ Some f

-- for a call that reads and looks for no fault
abbrev pub Reads : {E T : Type 0} → (T → Type 0) → Result T (DirsError E) → Type 0
Reads view result = Finds None view result

-- a fact about each directory of these bytes that has these entries
abbrev pub OfEntries : List (Option Entry) → List ℕ → (Form → ℕ → Type 0) → Type 0
OfEntries entries bytes fact =
    (form : Form) (at : ℕ) → HasEntries form bytes at entries → fact form at

-- After success the reader is as its reads leave it. After a reader's error it is as the failed
-- read left it.
abbrev pub Leaves : {R E T : Type 0} → (R → R → Type 0) → (R → E → R → Type 0) → R → R
    → Result T (DirsError E) → Type 0
Leaves keeps refuses old new (Ok dirs) = keeps old new
Leaves keeps refuses old new (Err (Fault fault)) = keeps old new
Leaves {R} keeps refuses old new (Err (Reader e)) = (mid : R) × keeps old mid × refuses mid e new
Leaves keeps refuses old new (Err NoMemory) = keeps old new
