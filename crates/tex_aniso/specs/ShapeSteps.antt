-- How long are the steps of a footprint? No caller sees this.
use Rattle.std.specs.Prelude.{ℕ, ◌^◌, ◌<◌, ℤ, pos, neg_ℤ, ◌≤ℤ◌}
use Rattle.tex_aniso.specs.declared.shape.Steps.{Steps}
use Rattle.tex_aniso.specs.Digits.{magnitude}

-- each step has at most k binary digits
pub record AreWithin (k : ℕ) (steps : Steps) : Type 0 where
  pub ux : magnitude steps.ux < 2 ^ k
  pub vx : magnitude steps.vx < 2 ^ k
  pub uy : magnitude steps.uy < 2 ^ k
  pub vy : magnitude steps.vy < 2 ^ k

-- how many the steps of a request have at most
abbrev pub request_digits : ℕ
request_digits = 49

-- how many are left when they are shortened
abbrev pub kept_digits : ℕ
kept_digits = 29

-- z is at most b away from 0
pub record IsUpTo (z : ℤ) (b : ℕ) : Type 0 where
  pub low : neg_ℤ (pos b) ≤ℤ z
  pub high : z ≤ℤ pos b
