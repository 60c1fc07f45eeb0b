-- What is true of the probes on both sides of a footprint? No caller sees this.
use Rattle.std.specs.Prelude.{◌≡◌, ℕ, ◌*◌, ◌<◌, ◌≤◌}
use Rattle.tex_aniso.specs.declared.side_probes.SideProbes.{SideProbes}
use Rattle.tex_aniso.specs.Bell.{reach_of}
use Rattle.tex_aniso.specs.Ellipse.{near_sides, longest_step}

-- They are those of the longer axis and the step, and the axis is more than 9/8 of a step.
pub record HasSides (major step arm : ℕ) (probes : SideProbes) : Type 0 where
  pub reach : probes.bell.reach ≡ reach_of major step
  pub count : probes.count ≡ near_sides step (reach_of major step)
  pub few : probes.count ≤ arm
  pub near : step < longest_step
  pub long : 9 * step < 8 * major
