use Rattle.std.proofs.Common.{refl, arith}
use Rattle.tex_aniso.specs.Line.{total_weight}
use Rattle.tex_aniso.proofs.LineLemmas.{total_more}
use Rattle.tex_aniso.proofs.probe_line.ProbeLine.total.Goals as goal

pub loop-j-init : goal.loop-j-init
unfolding total_weight
loop-j-init c = record { value = refl; high = omega arith }

pub loop-j-preserved : goal.loop-j-preserved
loop-j-preserved c = record {
  value = omega (arith, total_more c.args.self.now c.loop-j.j, c.loop-j.invariant.value);
  high = omega arith;
}
