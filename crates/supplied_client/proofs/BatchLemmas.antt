-- What is in a buffer whose first values were written?
use Rattle.std.proofs.Common.{◌≡◌, ℕ, ◌≤◌, List, ◌++◌, length, take, drop, arith}
use Rattle.std.specs.Prelude.{slice_index}
use Rattle.std.proofs.lemmas.Grind.{common_steps}

-- a value that is the same in the first part, or that lies behind it
pub same_value : (n k : ℕ) (out new : List ℕ) → n ≤ length out → length new ≡ n
    → slice_index new k ≡ slice_index (take n out) k
    → slice_index (new ++ drop n out) k ≡ slice_index out k
same_value n k out new room long same = grind (arith, common_steps)
