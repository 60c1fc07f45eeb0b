-- Which list do pieces make, one after another?
use Rattle.std.specs.Prelude.{ℕ, zero, suc, List, [], ◌++◌}

-- the first n pieces, joined
abbrev pub joined : (ℕ → List ℕ) → ℕ → List ℕ
joined piece zero = []
joined piece (suc n) = joined piece n ++ piece n
