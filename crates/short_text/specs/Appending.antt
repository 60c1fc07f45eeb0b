-- What does a function that appends text leave?
use Rattle.std.specs.Prelude.{◌≡◌, ℕ, ◌+◌, ◌≤◌, List, ◌++◌, length, take, Result, Ok, Err, IsOk}
use Rattle.std.specs.Prelude.{vec_len, vec_capacity}
use Rattle.std.specs.Global.{Vec}

-- the second list begins with the first
unfoldable pub Begins : List ℕ → List ℕ → Type 0
Begins old new = take (length old) new ≡ old

-- The text was appended. If memory ran out, what was there before is still there.
abbrev pub Pushes : {T E : Type 0} → List ℕ → List ℕ → List ℕ → Result T E → Type 0
Pushes text old new (Ok _) = new ≡ old ++ text
Pushes text old new (Err _) = Begins old new

-- At most this many bytes were appended, and if memory for them was reserved, it did not run out.
abbrev pub Fits : {T E : Type 0} → ℕ → Vec ℕ → Vec ℕ → Result T E → Type 0
Fits n old new result = (vec_capacity old ≤ vec_capacity new)
    × (vec_len old + n ≤ vec_capacity old → IsOk result × (vec_len new ≤ vec_len old + n))

-- the most bytes of a number and the byte before it
abbrev pub max_number_bytes : ℕ
max_number_bytes = 21
