use Rattle.std.proofs.Common.{◌≡◌, ℕ, ◌<◌, ◌≤◌, length, get_or}
use Rattle.tex_aniso.specs.Bell.{bell_weight}
use Rattle.tex_aniso.specs.Ellipse.{apart_by}
use Rattle.tex_aniso.proofs.bell.Bell.weights.Given as goal

abbrev pub invariant-loop-j : goal.invariant-loop-j
invariant-loop-j l = record {
  long : length l.weights ≡ 32;
  near : (i : ℕ) → i < 32 → apart_by i l.sides < l.j
      → get_or l.weights i 0 ≡ bell_weight l.self.reach (apart_by i l.sides);
  far : (i : ℕ) → i < 32 → l.j ≤ apart_by i l.sides → get_or l.weights i 0 ≡ 0;
}
