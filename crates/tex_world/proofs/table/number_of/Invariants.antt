use Rattle.std.proofs.Common.{◌≡◌, ℕ, ◌<◌}
use Rattle.tex_world.proofs.table.number_of.Given as goal

-- None of the files so far has the name.
abbrev pub invariant-loop-n : goal.invariant-loop-n
invariant-loop-n g l = (k : ℕ) → k < l.n → g.T.FileTable.name_of k ≡ l.name → ⊥
