-- An error after successful reads leaves the reader as if seen from the first of them.
use Rattle.std.proofs.Common.{Result, Ok, Err, IfOk}
use Rattle.rect_read.specs.declared.rect_error.RectError.{RectError}
use Rattle.rect_read.specs.declared.rect_error.RectError.TheVariants.{Reader, NoMemory}
use Rattle.rect_read.specs.RectRead.{LeavesReader}

module _ {R E : Type 0} (keeps : R → R → Type 0) (refuses : R → E → R → Type 0)
    (chains : (a b c : R) → keeps a b → keeps b c → keeps a c) where
  -- what an error leaves after one read, it leaves after both
  pub leaves_after : (T U : Type 0) (a b c : R) (e : RectError E) → keeps a b
      → LeavesReader {T = T} keeps refuses b c (Err e)
      → LeavesReader {T = U} keeps refuses a c (Err e)
  leaves_after T U a b c (Reader e) kept left = (left.0, chains a b left.0 kept left.1, left.2)
  leaves_after T U a b c NoMemory kept left = chains a b c kept left

-- a fact of an answer, from another fact of it
pub if_ok : {T E : Type 0} (P Q : T → Type 0) (result : Result T E) → ((x : T) → P x → Q x)
    → IfOk result P → IfOk result Q
if_ok P Q (Ok x) by p = by x p
if_ok P Q (Err e) by p = tt
