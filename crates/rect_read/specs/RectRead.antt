-- What does reading a rectangle leave of the reader?
use Rattle.std.specs.Prelude.{Result, Ok, Err}
use Rattle.rect_read.specs.declared.rect_error.RectError.{RectError}
use Rattle.rect_read.specs.declared.rect_error.RectError.TheVariants.{Reader, NoMemory}

-- After success the reader is as its reads leave it. After a reader's error it is as the failed
-- read left it.
abbrev pub LeavesReader : {R E T : Type 0} → (R → R → Type 0) → (R → E → R → Type 0) → R → R
    → Result T (RectError E) → Type 0
LeavesReader keeps refuses old new (Ok x) = keeps old new
LeavesReader {R} keeps refuses old new (Err (Reader e)) =
    (mid : R) × keeps old mid × refuses mid e new
LeavesReader keeps refuses old new (Err NoMemory) = keeps old new
