-- Which probes has a lookup over an elliptical footprint, and which value?
-- (docs/FILTERING.md, "Footprints as ellipses")
use Rattle.std.specs.Prelude.{◌≡◌, ℕ, zero, suc, ◌+◌, ◌-◌, ◌*◌, ◌^◌, ◌<◌, ◌≤◌, nat_le, ◌&&◌, Bool}
use Rattle.std.specs.Prelude.{if◌then◌else◌, ℤ, pos, ◌-ℤ◌, ◌*ℤ◌, unsigned_abs, List, map}
use Rattle.std.specs.List.{range_with_len}
use Rattle.texel_filter.specs.Image.{Sizes, Image, Texel}
use Rattle.tex_aniso.specs.declared.ellipse_request.EllipseRequest.{EllipseRequest}
use Rattle.tex_aniso.specs.declared.shape.Shape.{Shape}
use Rattle.tex_aniso.specs.declared.probe_line.ProbeLine.{ProbeLine}
use Rattle.tex_aniso.specs.Footprint.{lod_of}
use Rattle.tex_aniso.specs.Shape.{steps_of, shape_of, major_axis, minor_axis}
use Rattle.tex_aniso.specs.Bell.{arm_of, probe_step, reach_of, used_count, bell_weight}
use Rattle.tex_aniso.specs.Axis.{direction_of, across_of, down_of}
use Rattle.tex_aniso.specs.Line.{max_line_probes, line_value, line_visits, weight_at, total_weight}

-- ---- the parts, of a request on a level 0 of w by h

abbrev pub shape_on : EllipseRequest → ℕ → ℕ → Shape
shape_on r w h = shape_of (steps_of r w h)

-- the longer axis
abbrev pub major_on : EllipseRequest → ℕ → ℕ → ℕ
major_on r w h = major_axis (shape_on r w h)

-- how far a probe lies from the next one, in 1/65536 of a texel
abbrev pub step_on : EllipseRequest → ℕ → ℕ → ℕ
step_on r w h = probe_step (major_on r w h) (minor_axis (shape_on r w h)) (arm_of r.max_probes)

-- how far the bell of the weights goes from the middle
abbrev pub reach_on : EllipseRequest → ℕ → ℕ → ℕ
reach_on r w h = reach_of (major_on r w h) (step_on r w h)

-- how far the coordinates go from a probe to the next
abbrev pub ds_on : EllipseRequest → ℕ → ℕ → ℤ
ds_on r w h = across_of (direction_of (shape_on r w h)) (step_on r w h) w

abbrev pub dt_on : EllipseRequest → ℕ → ℕ → ℤ
dt_on r w h = down_of (direction_of (shape_on r w h)) (step_on r w h) h

-- ---- how many probes lie on each side of the middle one

-- a step of 131072 texels, in 1/65536 of a texel: from this on there is one probe alone
abbrev pub longest_step : ℕ
longest_step = 2 ^ 33

abbrev pub near_sides : ℕ → ℕ → ℕ
near_sides step reach = if nat_le longest_step step then 0 else used_count reach

-- the coordinates go 512 images far at most
abbrev pub is_near : ℤ → ℤ → Bool
is_near ds dt = nat_le (unsigned_abs ds) (2 ^ 41) && nat_le (unsigned_abs dt) (2 ^ 41)

abbrev pub sides_by : ℕ → ℤ → ℤ → ℕ
sides_by sides ds dt = if is_near ds dt then sides else 0

abbrev pub sides_on : EllipseRequest → ℕ → ℕ → ℕ
sides_on r w h =
    sides_by (near_sides (step_on r w h) (reach_on r w h)) (ds_on r w h) (dt_on r w h)

-- ---- the probes

-- how far two numbers lie apart
abbrev pub apart_by : ℕ → ℕ → ℕ
apart_by i n = (i - n) + (n - i)

-- the weight of probe i of a line with n probes on each side; 0 behind the last
abbrev pub side_weight : ℕ → ℕ → ℕ → ℕ
side_weight reach n i = if nat_le i (2 * n) then bell_weight reach (apart_by i n) else 0

-- the weight of probe i of a line of one
abbrev pub first_weight : ℕ → ℕ
first_weight zero = 1
first_weight (suc i) = 0

-- a list of 32 weights
unfoldable pub weights_by : (ℕ → ℕ) → List ℕ
weights_by weight = map weight (range_with_len 0 max_line_probes)

-- one probe alone, in the middle
abbrev pub line_alone : EllipseRequest → ℕ → ProbeLine
line_alone r lod = record {
  s = r.s;
  t = r.t;
  ds = pos 0;
  dt = pos 0;
  lod = lod;
  count = 1;
  weights = weights_by first_weight;
  swrap = r.swrap;
  twrap = r.twrap;
  nch = r.nch;
}

-- n probes on each side of the middle
abbrev pub line_along : EllipseRequest → ℕ → ℕ → ℕ → ℤ → ℤ → ProbeLine
line_along r lod n reach ds dt = record {
  s = r.s -ℤ pos n *ℤ ds;
  t = r.t -ℤ pos n *ℤ dt;
  ds = ds;
  dt = dt;
  lod = lod;
  count = 2 * n + 1;
  weights = weights_by (side_weight reach n);
  swrap = r.swrap;
  twrap = r.twrap;
  nch = r.nch;
}

unfoldable pub line_by : EllipseRequest → ℕ → ℕ → ℕ → ℤ → ℤ → ProbeLine
line_by r lod zero reach ds dt = line_alone r lod
line_by r lod (suc n) reach ds dt = line_along r lod (suc n) reach ds dt

-- the probes of a footprint
unfoldable pub ellipse_line : EllipseRequest → ℕ → ℕ → ProbeLine
ellipse_line r w h =
    line_by r (lod_of (step_on r w h)) (sides_on r w h) (reach_on r w h) (ds_on r w h) (dt_on r w h)

-- ---- the lookup

-- by the size of level 0
abbrev pub ellipse_on : Sizes → EllipseRequest → ProbeLine
ellipse_on sizes r = ellipse_line r (sizes.width 0) (sizes.height 0)

-- channel c of it
abbrev pub ellipse_value : Image → EllipseRequest → ℕ → ℕ
ellipse_value image r c = line_value image (ellipse_on image.sizes r) c

-- the texels that it visits
abbrev pub ellipse_visits : Sizes → EllipseRequest → List Texel
ellipse_visits sizes r = line_visits sizes (ellipse_on sizes r)

-- ---- what is true of the probes

-- An odd number of probes, at most `most`. Their weights are symmetric, each is above 0, and their
-- sum is at most 65535.
pub record AreEllipseProbes (most : ℕ) (line : ProbeLine) : Type 0 where
  pub odd : (n : ℕ) × (line.count ≡ 2 * n + 1)
  pub few : line.count ≤ most
  pub symmetric : (i : ℕ) → i < line.count
      → weight_at line i ≡ weight_at line (line.count - 1 - i)
  pub weighty : (i : ℕ) → i < line.count → 1 ≤ weight_at line i
  pub together : total_weight line line.count ≤ 65535
