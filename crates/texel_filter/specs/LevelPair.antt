-- Between which two levels does an LOD lie, and what is a lookup between them?
use Rattle.std.specs.Prelude.{◌≡◌, ℕ, ◌+◌, ◌*◌, ◌<◌, ◌≤◌, List, ◌++◌}
use Rattle.texel_filter.specs.declared.request.FineRequest.{FineRequest}
use Rattle.texel_filter.specs.declared.coordinate.LevelPair.{LevelPair}
use Rattle.texel_filter.specs.Image.{Sizes, Image, Texel}
use Rattle.texel_filter.specs.Coordinate.{unit, level_before, fraction_of_next_level}
use Rattle.texel_filter.specs.Filter.{bilinear_sum, blended_sum, rounded_sum}
use Rattle.texel_filter.specs.Visits.{square_visits}

-- the levels about an LOD, and its fraction of the second
pub record AreLevelsAt (lod levels : ℕ) (pair : LevelPair) : Type 0 where
  pub first : pair.first ≡ level_before lod levels
  pub fraction : pair.fraction ≡ fraction_of_next_level lod levels
  pub inside : pair.first < levels
  pub next_inside : 1 ≤ pair.fraction → pair.first + 1 < levels
  pub below : pair.fraction < unit

-- the sum of a channel where the first level has the whole weight
abbrev pub alone_sum : Image → FineRequest → ℕ → ℕ → ℕ
alone_sum image r l c = unit * bilinear_sum image r l c

-- the sum of a channel over two levels
abbrev pub between_sum : Image → FineRequest → LevelPair → ℕ → ℕ
between_sum image r levels c =
    blended_sum levels.fraction (bilinear_sum image r levels.first c)
    (bilinear_sum image r (levels.first + 1) c)

-- a channel of the lookup between two levels
abbrev pub between_value : Image → FineRequest → LevelPair → ℕ → ℕ
between_value image r levels c = rounded_sum (between_sum image r levels c)

-- its visits
abbrev pub between_visits : Sizes → FineRequest → LevelPair → List Texel
between_visits sizes r levels =
    square_visits sizes r levels.first ++ square_visits sizes r (levels.first + 1)
