-- Which way does the longer axis of a footprint go, and how far do the coordinates go along it from a
-- probe to the next? (docs/FILTERING.md, "Footprints as ellipses")
use Rattle.std.specs.Prelude.{ℕ, ◌-◌, ◌*◌, ◌^◌, max, ℤ, pos, negsuc, ◌+ℤ◌, ◌-ℤ◌, ◌*ℤ◌, unsigned_abs}
use Rattle.texel_filter.specs.Coordinate.{unit, rounded_down}
use Rattle.tex_aniso.specs.declared.shape.Shape.{Shape}
use Rattle.tex_aniso.specs.declared.axis.Direction.{Direction}
use Rattle.tex_aniso.specs.Digits.{digits}
use Rattle.tex_aniso.specs.Shape.{length_of}

-- A vector along the longer axis, by the sum c, the sum d and the product m of the lengths: of the two
-- forms the one whose larger part is a sum, and no difference.
abbrev pub axis_by : ℤ → ℤ → ℕ → Direction
axis_by (pos c) d m = record { x = pos c +ℤ pos m; y = d }
axis_by (negsuc c) d m = record { x = d; y = pos m -ℤ negsuc c }

-- that of a shape
abbrev pub long_direction : Shape → Direction
long_direction shape =
    axis_by (shape.e *ℤ shape.f -ℤ shape.o *ℤ shape.g) (shape.e *ℤ shape.g +ℤ shape.f *ℤ shape.o)
    (shape.q * shape.r)

-- by how many binary digits a vector is shortened, so that 29 are left
abbrev pub direction_shift : Direction → ℕ
direction_shift v = digits (max (unsigned_abs v.x) (unsigned_abs v.y)) - 29

-- it, shortened: rounded down
abbrev pub shortened_direction : Direction → Direction
shortened_direction v = record {
  x = rounded_down v.x (2 ^ direction_shift v);
  y = rounded_down v.y (2 ^ direction_shift v);
}

-- the direction of the longer axis
unfoldable pub direction_of : Shape → Direction
direction_of shape = shortened_direction (long_direction shape)

-- How far a coordinate goes on a side of `side` texels, along `part` of a vector that is `long`, for a
-- step in 1/65536 of a texel. The answer is in 1/2^32 of the image, rounded down twice.
abbrev pub image_step : ℕ → ℤ → ℕ → ℕ → ℤ
image_step step part long side =
    rounded_down (pos unit *ℤ rounded_down (pos step *ℤ part) long) side

-- how far the coordinate across goes from a probe to the next, and the coordinate down
abbrev pub across_of : Direction → ℕ → ℕ → ℤ
across_of v step w = image_step step v.x (length_of v.x v.y) w

abbrev pub down_of : Direction → ℕ → ℕ → ℤ
down_of v step h = image_step step v.y (length_of v.x v.y) h
