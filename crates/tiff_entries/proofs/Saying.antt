-- What one call finds, from what another finds.
use Rattle.std.proofs.Common.{◌≡◌, Result, Ok, Err, Option, Some, None, ◌∙◌}
use Rattle.tiff_format.specs.declared.fault.TiffFault.{TiffFault}
use Rattle.tiff_entries.specs.declared.error.DirsError.{DirsError}
use Rattle.tiff_entries.specs.declared.error.DirsError.TheVariants.{Fault, Reader, NoMemory}
use Rattle.tiff_entries.specs.Calls.{Finds, Leaves}

-- the same fault, with an answer seen in another way
pub finds_so : {E T : Type 0} (p q : Option TiffFault) (seen wanted : T → Type 0)
    (r : Result T (DirsError E))
    → Finds p seen r → q ≡ p → ((x : T) → p ≡ None → seen x → wanted x) → Finds q wanted r
finds_so p q seen wanted (Ok x) s same view = (same ∙ s.0, view x s.0 s.1)
finds_so p q seen wanted (Err (Fault fault)) s same view = same ∙ s
finds_so p q seen wanted (Err (Reader e)) s same view = tt
finds_so p q seen wanted (Err NoMemory) s same view = tt

-- an error that is handed on
pub finds_err : {E T U : Type 0} (p q : Option TiffFault) (seen : T → Type 0)
    (wanted : U → Type 0) (e : DirsError E)
    → Finds p seen (Err e) → ((fault : TiffFault) → p ≡ Some fault → q ≡ Some fault)
    → Finds q wanted (Err e)
finds_err p q seen wanted (Fault fault) s on = on fault s
finds_err p q seen wanted (Reader e) s on = tt
finds_err p q seen wanted NoMemory s on = tt

-- ---- how a reader is left

-- what a call leaves that hands an error on, after answered reads
pub leaves_err : {R E : Type 0} (T U : Type 0) (keeps : R → R → Type 0)
    (refuses : R → E → R → Type 0) (first mid last : R) (e : DirsError E)
    → ((a b c : R) → keeps a b → keeps b c → keeps a c) → keeps first mid
    → Leaves {T = T} keeps refuses mid last (Err e)
    → Leaves {T = U} keeps refuses first last (Err e)
leaves_err T U keeps refuses first mid last (Fault fault) chains before leaves =
    chains first mid last before leaves
leaves_err T U keeps refuses first mid last (Reader e) chains before leaves =
    (leaves.0, chains first mid leaves.0 before leaves.1, leaves.2)
leaves_err T U keeps refuses first mid last NoMemory chains before leaves =
    chains first mid last before leaves

-- what a last call leaves after answered reads, whatever it gives
pub leaves_more : {R E : Type 0} (T : Type 0) (keeps : R → R → Type 0)
    (refuses : R → E → R → Type 0) (first mid last : R) (r : Result T (DirsError E))
    → ((a b c : R) → keeps a b → keeps b c → keeps a c) → keeps first mid
    → Leaves keeps refuses mid last r → Leaves keeps refuses first last r
leaves_more T keeps refuses first mid last (Ok x) chains before leaves =
    chains first mid last before leaves
leaves_more T keeps refuses first mid last (Err e) chains before leaves =
    leaves_err T T keeps refuses first mid last e chains before leaves
