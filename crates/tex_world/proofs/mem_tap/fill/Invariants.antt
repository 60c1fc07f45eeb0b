use Rattle.std.proofs.Common.{◌≡◌, ℕ, ◌+◌, ◌<◌, get_or}
use Rattle.tex_world.proofs.mem_tap.fill.Given as goal

-- The bytes so far are those of the generation.
abbrev pub invariant-loop-i : goal.invariant-loop-i
invariant-loop-i g l = (k : ℕ) → k < l.i
    → get_or l.buf k 0 ≡ g.T.FileTable.byte_of l.file l.generation (l.at + k)
