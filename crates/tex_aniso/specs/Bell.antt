-- How many probes lie along the longer axis of a footprint, how far apart, and how much does each
-- count? (docs/FILTERING.md, "Footprints as ellipses")
use Rattle.std.specs.Prelude.{ℕ, zero, suc, ◌+◌, ◌-◌, ◌*◌, ◌/◌, ◌^◌, max, min, ◌==◌, if◌then◌else◌}
use Rattle.std.specs.Int.{div_ceil}
use Rattle.texel_filter.specs.Coordinate.{unit}
use Rattle.tex_aniso.specs.Digits.{digits}

-- the most probes on each side of the middle one
abbrev pub arm_of : ℕ → ℕ
arm_of most = (most - 1) / 2

-- How far a probe lies from the next one, in 1/65536 of a texel: the shorter axis, a texel at least,
-- and so much that the most probes reach the ends of the longer axis.
abbrev pub probe_step : ℕ → ℕ → ℕ → ℕ
probe_step major minor arm = max (max minor unit) (div_ceil (24 * major) (32 * arm + 27))

-- half a step, in 1/32768 of a step
abbrev pub half_step : ℕ
half_step = 16384

-- how far the bell of the weights goes from the middle, in 1/32768 of a step: it is
-- 3/4 * (major / step - 9/8) + 1/2 steps
abbrev pub reach_of : ℕ → ℕ → ℕ
reach_of major step = 1024 * (24 * major - 11 * step) / step

-- how many probes on each side have a part of their step below the bell
abbrev pub side_count : ℕ → ℕ
side_count reach = (reach + (half_step - 1)) / (2 * half_step)

-- the area of the bell from the middle to x, of a parabola that ends at its reach: three times that
abbrev pub bell_area : ℕ → ℕ → ℕ
bell_area reach x = 3 * reach * reach * x - x * x * x

-- the area over the step of probe j from the middle
unfoldable pub bell_part : ℕ → ℕ → ℕ
bell_part reach zero = 2 * bell_area reach half_step
bell_part reach (suc j) =
    bell_area reach (min reach ((2 * suc j + 1) * half_step))
    - bell_area reach ((2 * j + 1) * half_step)

-- the whole area
abbrev pub bell_whole : ℕ → ℕ
bell_whole reach = 4 * (reach * reach * reach)

-- by how many binary digits the areas are shortened, so that 16 of the whole are left
abbrev pub bell_cut : ℕ → ℕ
bell_cut reach = digits (bell_whole reach) - 16

-- the weight of probe j from the middle
abbrev pub bell_weight : ℕ → ℕ → ℕ
bell_weight reach j = bell_part reach j / 2 ^ bell_cut reach

-- how many probes on each side are used: a last one of weight 0 is not
abbrev pub used_count : ℕ → ℕ
used_count reach =
    if bell_weight reach (side_count reach) == 0 then side_count reach - 1 else side_count reach
