use Rattle.tex_make.specs.Level.{shown}
use Rattle.tex_make.specs.HalfRows.{AreHalfRows}
use Rattle.tex_make.proofs.level.Level.halve_rows.Given as goal

abbrev pub invariant-loop-y : goal.invariant-loop-y
invariant-loop-y l = AreHalfRows (shown l.self) l.y l.out
