use Rattle.std.proofs.Common.{◌≡◌, ◌*◌, ◌≤◌}
use Rattle.tex_aniso.specs.Line.{total_weight}
use Rattle.tex_aniso.proofs.probe_line.ProbeLine.total.Given as goal

abbrev pub invariant-loop-j : goal.invariant-loop-j
invariant-loop-j l = record {
  value : l.sum ≡ total_weight l.self l.j;
  high : l.sum ≤ 65535 * l.j;
}
