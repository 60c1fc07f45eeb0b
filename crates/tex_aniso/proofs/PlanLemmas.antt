-- From the parts of a plan to the plan.
use Rattle.std.proofs.Common.{◌≡◌, ℕ, ◌<◌, ◌≤◌, ℤ, refl}
use Rattle.std.proofs.lemmas.Bool.{le-leb, lt-leb}
use Rattle.texel_filter.specs.declared.request.DerivRequest.{DerivRequest}
use Rattle.tex_aniso.specs.declared.probe_plan.ProbePlan.{ProbePlan}
use Rattle.tex_aniso.specs.Footprint.{right_length, below_length, major_length}
use Rattle.tex_aniso.specs.Footprint.{major_ds, major_dt, probe_length, lod_of}
use Rattle.tex_aniso.specs.Probe.{plan_of, count_of}

pub plan_is : (r : DerivRequest) (w h n lod : ℕ) (ds dt : ℤ) → n ≡ count_of r w h
    → lod ≡ lod_of (probe_length (major_length r w h) n) → ds ≡ major_ds r w h
    → dt ≡ major_dt r w h
    → ◌≡◌ {A = ProbePlan} record { n = n; lod = lod; ds = ds; dt = dt } (plan_of r w h)
unfolding plan_of
plan_is r w h n lod ds dt count level across down = rw (level, count, across, down)

-- which axis is the longer one
pub right_is_major : (r : DerivRequest) (w h : ℕ) → below_length r w h ≤ right_length r w h
    → (r.dsdx ≡ major_ds r w h) × (r.dtdx ≡ major_dt r w h)
right_is_major r w h longer =
    let is = le-leb (below_length r w h) (right_length r w h) longer in (rw is refl, rw is refl)

pub below_is_major : (r : DerivRequest) (w h : ℕ) → right_length r w h < below_length r w h
    → (r.dsdy ≡ major_ds r w h) × (r.dtdy ≡ major_dt r w h)
below_is_major r w h longer =
    let is = lt-leb (below_length r w h) (right_length r w h) longer in (rw is refl, rw is refl)
