-- Which ellipse is a pixel's footprint on level 0 of an image?
-- (docs/FILTERING.md, "Footprints as ellipses")
use Rattle.std.specs.Prelude.{ℕ, ◌+◌, ◌-◌, ◌*◌, ◌/◌, ◌^◌, ◌<◌, ◌≤◌, max, min}
use Rattle.std.specs.Prelude.{ℤ, pos, neg_ℤ, ◌+ℤ◌, ◌-ℤ◌, ◌≤ℤ◌, ◌<ℤ◌, unsigned_abs}
use Rattle.texel_filter.specs.Image.{IsChannelCount}
use Rattle.texel_filter.specs.Coordinate.{unit, rounded_down, from_first_edge}
use Rattle.tex_aniso.specs.declared.ellipse_request.EllipseRequest.{EllipseRequest}
use Rattle.tex_aniso.specs.declared.shape.Steps.{Steps}
use Rattle.tex_aniso.specs.declared.shape.Shape.{Shape}
use Rattle.tex_aniso.specs.Digits.{digits, magnitude, root}

-- ---- which requests may be made

-- a coordinate of a footprint's middle: at most 16384 images from the edge
pub record IsMiddle (z : ℤ) : Type 0 where
  pub low : neg_ℤ (pos (2 ^ 46)) ≤ℤ z
  pub high : z ≤ℤ pos (2 ^ 46)

-- how far a coordinate goes from a pixel to the next one
pub record IsPixelStep (z : ℤ) : Type 0 where
  pub low : neg_ℤ (pos (2 ^ 46)) ≤ℤ z
  pub high : z <ℤ pos (2 ^ 46)

-- its coordinates, its derivatives, its number of probes and of channels
pub record IsEllipseRequest (r : EllipseRequest) : Type 0 where
  pub s : IsMiddle r.s
  pub t : IsMiddle r.t
  pub dsdx : IsPixelStep r.dsdx
  pub dtdx : IsPixelStep r.dtdx
  pub dsdy : IsPixelStep r.dsdy
  pub dtdy : IsPixelStep r.dtdy
  pub some : 1 ≤ r.max_probes
  pub few : r.max_probes ≤ 32
  pub channels : IsChannelCount r.nch

-- ---- the steps to the next pixels

-- The steps to the right and below, on a level 0 of w by h, in 1/65536 of a texel: rounded down.
abbrev pub steps_of : EllipseRequest → ℕ → ℕ → Steps
steps_of r w h = record {
  ux = from_first_edge r.dsdx w;
  vx = from_first_edge r.dtdx h;
  uy = from_first_edge r.dsdy w;
  vy = from_first_edge r.dtdy h;
}

-- by how many binary digits they are shortened, so that 29 are left
abbrev pub shift_of : Steps → ℕ
shift_of steps =
    digits (max (max (magnitude steps.ux) (magnitude steps.vx))
    (max (magnitude steps.uy) (magnitude steps.vy)))
    - 29

-- they, shortened by k digits: rounded down
abbrev pub shortened : ℕ → Steps → Steps
shortened k steps = record {
  ux = rounded_down steps.ux (2 ^ k);
  vx = rounded_down steps.vx (2 ^ k);
  uy = rounded_down steps.uy (2 ^ k);
  vy = rounded_down steps.vy (2 ^ k);
}

-- ---- the ellipse

abbrev pub square_of : ℤ → ℕ
square_of z = unsigned_abs z * unsigned_abs z

-- the root of the sum of two squares
abbrev pub length_of : ℤ → ℤ → ℕ
length_of x y = root (square_of x + square_of y)

-- The sums and differences of shortened steps, and the lengths q of (e, o) and r of (f, g). The
-- axes of the ellipse are (q + r) / 2 and |q - r| / 2 long.
abbrev pub shape_at : ℕ → Steps → Shape
shape_at k steps = record {
  shift = k;
  e = steps.ux +ℤ steps.vy;
  f = steps.ux -ℤ steps.vy;
  g = steps.vx +ℤ steps.uy;
  o = steps.vx -ℤ steps.uy;
  q = length_of (steps.ux +ℤ steps.vy) (steps.vx -ℤ steps.uy);
  r = length_of (steps.ux -ℤ steps.vy) (steps.vx +ℤ steps.uy);
}

-- the shape of the footprint of these steps
unfoldable pub shape_of : Steps → Shape
shape_of steps = shape_at (shift_of steps) (shortened (shift_of steps) steps)

-- the longer axis, in 1/65536 of a texel, and a texel at least
abbrev pub major_axis : Shape → ℕ
major_axis shape = max unit ((shape.q + shape.r) * 2 ^ shape.shift / 2)

-- the shorter axis
abbrev pub minor_axis : Shape → ℕ
minor_axis shape = (max shape.q shape.r - min shape.q shape.r) * 2 ^ shape.shift / 2

-- ---- what is true of every shape

-- a number of 30 digits, with a sign
pub record IsShort (z : ℤ) : Type 0 where
  pub low : neg_ℤ (pos (2 ^ 30)) ≤ℤ z
  pub high : z ≤ℤ pos (2 ^ 30)

pub record IsShape (shape : Shape) : Type 0 where
  pub shift : shape.shift ≤ 20
  pub e : IsShort shape.e
  pub f : IsShort shape.f
  pub g : IsShort shape.g
  pub o : IsShort shape.o
  pub q : shape.q < 2 ^ 31
  pub r : shape.r < 2 ^ 31
