-- From the parts of a footprint to its probes.
use Rattle.std.proofs.Common.{◌≡◌, ℕ, zero, suc, ◌≤◌, ℤ, Bool, true, false}
use Rattle.std.proofs.Common.{if◌then◌else◌}
use Rattle.std.proofs.Common.{refl, ap, sym, ◌∙◌, arith}
use Rattle.tex_aniso.specs.declared.ellipse_request.EllipseRequest.{EllipseRequest}
use Rattle.tex_aniso.specs.declared.shape.Shape.{Shape}
use Rattle.tex_aniso.specs.declared.shape.Steps.{Steps}
use Rattle.tex_aniso.specs.Footprint.{lod_of}
use Rattle.tex_aniso.specs.Shape.{steps_of, shape_of, major_axis, minor_axis}
use Rattle.tex_aniso.specs.Bell.{arm_of, probe_step, reach_of}
use Rattle.tex_aniso.specs.Axis.{direction_of, across_of, down_of}
use Rattle.tex_aniso.specs.declared.axis.Direction.{Direction}
use Rattle.tex_aniso.specs.Ellipse.{reach_on, ds_on, dt_on, sides_on}
use Rattle.tex_aniso.specs.Ellipse.{shape_on, major_on, step_on, near_sides, sides_by, is_near}
use Rattle.tex_aniso.specs.Ellipse.{line_alone, line_along, line_by, ellipse_line}

-- the parts that lead to the step and its LOD
pub record AreParts (r : EllipseRequest) (w h : ℕ) (shape : Shape) (major step lod : ℕ) : Type 0 where
  pub is_shape : shape ≡ shape_on r w h
  pub is_major : major ≡ major_on r w h
  pub is_step : step ≡ step_on r w h
  pub is_lod : lod ≡ lod_of (step_on r w h)

pub parts_of : (r : EllipseRequest) (w h : ℕ) (steps : Steps) (shape : Shape)
    (major minor step lod : ℕ) → steps ≡ steps_of r w h → shape ≡ shape_of steps
    → major ≡ major_axis shape → minor ≡ minor_axis shape
    → step ≡ probe_step major minor (arm_of r.max_probes) → lod ≡ lod_of step
    → AreParts r w h shape major step lod
parts_of r w h steps shape major minor step lod a b d e f g =
    let is = b ∙ ap shape_of a in
    let longer = d ∙ ap major_axis is in
    let shorter = e ∙ ap minor_axis is in
    let far : step ≡ step_on r w h = f ∙ rw (longer, shorter) refl in
    record {
      is_shape = is;
      is_major = longer;
      is_step = far;
      is_lod = g ∙ ap lod_of far;
    }

-- ---- how many probes on each side

none_if : (near : Bool) → ◌≡◌ {A = ℕ} (if near then 0 else 0) 0
none_if true = refl
none_if false = refl

none_by : (sides : ℕ) (ds dt : ℤ) → sides ≡ 0 → sides_by sides ds dt ≡ 0
none_by sides ds dt none = rw none (none_if (is_near ds dt))

far_by : (sides : ℕ) (ds dt : ℤ) → is_near ds dt ≡ false → sides_by sides ds dt ≡ 0
far_by sides ds dt far = rw far refl

near_by : (sides : ℕ) (ds dt : ℤ) → is_near ds dt ≡ true → sides_by sides ds dt ≡ sides
near_by sides ds dt near = rw near refl

-- ---- the line

alone_by : (r : EllipseRequest) (lod n reach : ℕ) (ds dt : ℤ) → n ≡ 0
    → line_alone r lod ≡ line_by r lod n reach ds dt
unfolding line_by
alone_by r lod n reach ds dt none = rw none refl

along_by : (r : EllipseRequest) (lod n reach : ℕ) (ds dt : ℤ) → 1 ≤ n
    → line_along r lod n reach ds dt ≡ line_by r lod n reach ds dt
unfolding line_by
along_by r lod zero reach ds dt some = absurd (omega arith)
along_by r lod (suc n) reach ds dt some = refl

-- ---- the footprint's

pub no_sides : (r : EllipseRequest) (w h : ℕ) (shape : Shape) (major step lod : ℕ)
    → AreParts r w h shape major step lod → near_sides step (reach_of major step) ≡ 0
    → line_alone r lod ≡ ellipse_line r w h
unfolding ellipse_line
no_sides r w h shape major step lod are none =
    let here = rw (are.is_major, are.is_step) at none in
    ap (line_alone r) are.is_lod
    ∙ alone_by r (lod_of (step_on r w h)) (sides_on r w h) (reach_on r w h) (ds_on r w h)
    (dt_on r w h)
    (none_by (near_sides (step_on r w h) (reach_on r w h)) (ds_on r w h) (dt_on r w h) here)

pub far_sides : (r : EllipseRequest) (w h : ℕ) (shape : Shape) (major step lod : ℕ) (v : Direction)
    (ds dt : ℤ) → AreParts r w h shape major step lod → v ≡ direction_of shape
    → ds ≡ across_of v step w → dt ≡ down_of v step h → is_near ds dt ≡ false
    → line_alone r lod ≡ ellipse_line r w h
unfolding ellipse_line
far_sides r w h shape major step lod v ds dt are is across down far =
    let here = rw (across, down, is, are.is_shape, are.is_step) at far in
    ap (line_alone r) are.is_lod
    ∙ alone_by r (lod_of (step_on r w h)) (sides_on r w h) (reach_on r w h) (ds_on r w h)
    (dt_on r w h)
    (far_by (near_sides (step_on r w h) (reach_on r w h)) (ds_on r w h) (dt_on r w h) here)

pub near_sides_of : (r : EllipseRequest) (w h : ℕ) (shape : Shape) (major step lod n reach : ℕ)
    (v : Direction) (ds dt : ℤ) → AreParts r w h shape major step lod → v ≡ direction_of shape
    → ds ≡ across_of v step w → dt ≡ down_of v step h → is_near ds dt ≡ true → 1 ≤ n
    → reach ≡ reach_of major step → n ≡ near_sides step (reach_of major step)
    → line_along r lod n reach ds dt ≡ ellipse_line r w h
unfolding ellipse_line
near_sides_of r w h shape major step lod n reach v ds dt are is across down near some far count =
    let here = rw (across, down, is, are.is_shape, are.is_step) at near in
    let is_count = rw (are.is_major, are.is_step) at count ∙ sym
    (near_by (near_sides (step_on r w h) (reach_on r w h)) (ds_on r w h) (dt_on r w h) here) in
    let is_reach = rw (are.is_major, are.is_step) at far in
    let is_ds = rw (is, are.is_shape, are.is_step) at across in
    let is_dt = rw (is, are.is_shape, are.is_step) at down in
    along_by r lod n reach ds dt some
    ∙ rw (are.is_lod, is_count, is_reach, is_ds, is_dt) refl

-- a footprint's probes have its channels
channels_by : (r : EllipseRequest) (lod n reach : ℕ) (ds dt : ℤ)
    → (line_by r lod n reach ds dt).nch ≡ r.nch
unfolding line_by
channels_by r lod zero reach ds dt = refl
channels_by r lod (suc n) reach ds dt = refl

pub line_channels : (r : EllipseRequest) (w h : ℕ) → (ellipse_line r w h).nch ≡ r.nch
unfolding ellipse_line
line_channels r w h =
    channels_by r (lod_of (step_on r w h)) (sides_on r w h) (reach_on r w h) (ds_on r w h)
    (dt_on r w h)
