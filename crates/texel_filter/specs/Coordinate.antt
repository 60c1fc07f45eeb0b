-- Where does a texture coordinate lie in a row or column of texels, and which levels does an LOD
-- mean? (docs/FILTERING.md, "Coordinates" and "Levels")
use Rattle.std.specs.Prelude.{ℕ, ◌+◌, ◌-◌, ◌*◌, ◌/◌, ◌%◌, min}
use Rattle.std.specs.Prelude.{ℤ, pos, negsuc, ◌-ℤ◌, ◌*ℤ◌}

-- 1 in a coordinate, in an LOD and in a weight; and a half of it
abbrev pub unit : ℕ
unit = 65536

abbrev pub half_unit : ℕ
half_unit = 32768

-- ---- coordinates

-- the quotient, rounded down also where the number is negative
abbrev pub rounded_down : ℤ → ℕ → ℤ
rounded_down (pos a) d = pos (a / d)
rounded_down (negsuc a) d = negsuc (a / d)

-- what then is left of the number: 0 to d - 1
abbrev pub left_over : ℤ → ℕ → ℕ
left_over (pos a) d = a % d
left_over (negsuc a) d = d - 1 - a % d

-- How far coordinate s, in 1/2^32 of the image, lies from the edge of texel 0, of n texels: in
-- 1/65536 of a texel, rounded down.
abbrev pub from_first_edge : ℤ → ℕ → ℤ
from_first_edge s n = rounded_down (s *ℤ pos n) unit

-- how far it lies from the middle of texel 0, in 1/65536 of a texel
abbrev pub from_first_middle : ℤ → ℕ → ℤ
from_first_middle s n = from_first_edge s n -ℤ pos half_unit

-- the index of the texel in which the coordinate lies
abbrev pub index_at : ℤ → ℕ → ℤ
index_at s n = rounded_down (from_first_edge s n) unit

-- the index of the last texel whose middle the coordinate does not lie before
abbrev pub index_before : ℤ → ℕ → ℤ
index_before s n = rounded_down (from_first_middle s n) unit

-- how far it lies from that middle to the next one, in 1/65536
abbrev pub fraction_of_next : ℤ → ℕ → ℕ
fraction_of_next s n = left_over (from_first_middle s n) unit

-- ---- levels

-- the level nearest to an LOD
abbrev pub nearest_level : ℕ → ℕ → ℕ
nearest_level lod levels = min (levels - 1) ((lod + half_unit) / unit)

-- the LOD, or that of the last level if this is less
abbrev pub lod_within : ℕ → ℕ → ℕ
lod_within lod levels = min lod (unit * (levels - 1))

-- the level before an LOD
abbrev pub level_before : ℕ → ℕ → ℕ
level_before lod levels = lod_within lod levels / unit

-- how far the LOD lies from that level to the next one, in 1/65536
abbrev pub fraction_of_next_level : ℕ → ℕ → ℕ
fraction_of_next_level lod levels = lod_within lod levels % unit
