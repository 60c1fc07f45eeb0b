use Rattle.std.proofs.Common.{◌≡◌, ℕ, ◌<◌, get_or}
use Rattle.tex_world.specs.Tap.{place_in_rows}
use Rattle.tex_world.proofs.mem_tap.fill_rows.Given as goal

-- The bytes so far are those of the generation, row by row.
abbrev pub invariant-loop-k : goal.invariant-loop-k
invariant-loop-k g l = (k : ℕ) → k < l.k → get_or l.buf k 0
    ≡ g.T.FileTable.byte_of l.file l.generation (place_in_rows l.at l.stride l.row k)
