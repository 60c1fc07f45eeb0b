-- How long are the axes of a pixel's footprint, how many probes lie along the longer one, and at
-- which LOD? (docs/FILTERING.md, "Footprints")
use Rattle.std.specs.Prelude.{ℕ, zero, suc, ◌+◌, ◌-◌, ◌*◌, ◌/◌, ◌^◌, max, min, nat_le}
use Rattle.std.specs.Prelude.{if◌then◌else◌, ℤ, unsigned_abs, Bool}
use Rattle.std.specs.Int.{div_ceil}
use Rattle.texel_filter.specs.declared.request.DerivRequest.{DerivRequest}
use Rattle.texel_filter.specs.Coordinate.{unit}

-- ---- the axes

-- How long a step of the coordinates is on an image of w by h: the longer of the parts across and
-- down, in 1/65536 of a texel.
abbrev pub step_length : ℤ → ℤ → ℕ → ℕ → ℕ
step_length ds dt w h = max (unsigned_abs ds * w) (unsigned_abs dt * h)

-- how long the step to the next pixel to the right is
abbrev pub right_length : DerivRequest → ℕ → ℕ → ℕ
right_length r w h = step_length r.dsdx r.dtdx w h

-- how long the step to the next pixel below is
abbrev pub below_length : DerivRequest → ℕ → ℕ → ℕ
below_length r w h = step_length r.dsdy r.dtdy w h

-- the length of the longer axis
abbrev pub major_length : DerivRequest → ℕ → ℕ → ℕ
major_length r w h = max (right_length r w h) (below_length r w h)

-- the length of the shorter axis
abbrev pub minor_length : DerivRequest → ℕ → ℕ → ℕ
minor_length r w h = min (right_length r w h) (below_length r w h)

-- the step to the right is the longer axis, also where both are equally long
abbrev pub is_right_major : DerivRequest → ℕ → ℕ → Bool
is_right_major r w h = nat_le (below_length r w h) (right_length r w h)

-- how far the longer axis goes across
abbrev pub major_ds : DerivRequest → ℕ → ℕ → ℤ
major_ds r w h = if is_right_major r w h then r.dsdx else r.dsdy

-- how far the longer axis goes down
abbrev pub major_dt : DerivRequest → ℕ → ℕ → ℤ
major_dt r w h = if is_right_major r w h then r.dtdx else r.dtdy

-- ---- the probes

-- the most probes
abbrev pub max_probes : ℕ
max_probes = 8

-- How many times the longer axis is as long as the shorter one, or as a texel where that is longer:
-- rounded up, 1 to 8.
abbrev pub probe_count : ℕ → ℕ → ℕ
probe_count major minor = max 1 (min max_probes (div_ceil major (max minor unit)))

-- the length that each of n probes stands for: a part of the longer axis, and a texel at least
abbrev pub probe_length : ℕ → ℕ → ℕ
probe_length major n = max unit (div_ceil major n)

-- ---- the LOD

-- the greatest level, up to the one named first, whose texels are no longer than a length
unfoldable pub greatest_level : ℕ → ℕ → ℕ
greatest_level zero length = 0
greatest_level (suc k) length =
    if nat_le (unit * 2 ^ suc k) length then suc k else greatest_level k length

-- The LOD of a length: the greatest such level, and how far the length lies from its texels to
-- those of the next level. The length itself bounds the search, since 2 ^ k is greater than k.
unfoldable pub lod_of : ℕ → ℕ
lod_of length =
    let k = greatest_level length length in
    unit * k + (length - unit * 2 ^ k) / 2 ^ k
