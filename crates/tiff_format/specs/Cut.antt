-- Which cuts are allowed?
use Rattle.std.specs.Prelude.{◌≡◌, ℕ, ◌%◌, ◌≤◌}
use Rattle.tiff_format.specs.declared.cut.Cut.{Cut}

-- the sides of the cells of stripped levels are multiples of this
abbrev pub autotile_step : ℕ
autotile_step = 16

-- the greatest side of the cells of stripped levels
abbrev pub max_autotile : ℕ
max_autotile = 4096

-- the side is a multiple of the step up to the greatest side, or 0
pub record IsCut (cut : Cut) : Type 0 where
  pub multiple : cut.autotile % autotile_step ≡ 0
  pub high : cut.autotile ≤ max_autotile
