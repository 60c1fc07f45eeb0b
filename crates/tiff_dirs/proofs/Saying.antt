-- What the call that reads the directories says, from what another call finds.
use Rattle.std.proofs.Common.{ℕ, List, ◌≡◌, Err, Option, Some}
use Rattle.tiff_format.specs.declared.fault.TiffFault.{TiffFault}
use Rattle.tiff_entries.specs.declared.error.DirsError.{DirsError}
use Rattle.tiff_entries.specs.declared.error.DirsError.TheVariants.{Fault, Reader, NoMemory}
use Rattle.tiff_entries.specs.Calls.{Finds}
use Rattle.tiff_dirs.specs.Dirs.{Tells}
use Rattle.tiff_format.specs.Fault.{first_fault}

-- an error of the call that reads the directories
pub tells_err : {E T : Type 0} (p : Option TiffFault) (bytes : List ℕ) (seen : T → Type 0)
    (e : DirsError E)
    → Finds p seen (Err e)
    → ((fault : TiffFault) → p ≡ Some fault → first_fault bytes ≡ Some fault)
    → Tells bytes (Err e)
tells_err p bytes seen (Fault fault) s on = on fault s
tells_err p bytes seen (Reader e) s on = tt
tells_err p bytes seen NoMemory s on = tt
