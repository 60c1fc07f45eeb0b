-- What is made of a lookup along a footprint, where does each probe lie, and what is asked there?
-- (docs/FILTERING.md, "Footprints")
use Rattle.std.specs.Prelude.{ℕ, ◌+◌, ◌*◌, ◌≤◌, ℤ, pos, ◌+ℤ◌, ◌-ℤ◌, ◌*ℤ◌}
use Rattle.texel_filter.specs.declared.request.DerivRequest.{DerivRequest}
use Rattle.texel_filter.specs.declared.request.TexRequest.{TexRequest}
use Rattle.texel_filter.specs.declared.request.Filter.TheVariants.{Trilinear}
use Rattle.texel_filter.specs.Coordinate.{rounded_down}
use Rattle.texel_filter.specs.Deriv.{IsDerivNumber}
use Rattle.tex_aniso.specs.declared.probe_plan.ProbePlan.{ProbePlan}
use Rattle.tex_aniso.specs.Footprint.{major_length, minor_length, major_ds, major_dt}
use Rattle.tex_aniso.specs.Footprint.{probe_count, probe_length, lod_of, max_probes}

-- how many probes a lookup has on an image of w by h
abbrev pub count_of : DerivRequest → ℕ → ℕ → ℕ
count_of r w h = probe_count (major_length r w h) (minor_length r w h)

-- what is made of it: the number of probes, their LOD and the longer axis
unfoldable pub plan_of : DerivRequest → ℕ → ℕ → ProbePlan
plan_of r w h = record {
  n = count_of r w h;
  lod = lod_of (probe_length (major_length r w h) (count_of r w h));
  ds = major_ds r w h;
  dt = major_dt r w h;
}

-- what is true of every such plan
pub record IsPlan (p : ProbePlan) : Type 0 where
  pub some : 1 ≤ p.n
  pub few : p.n ≤ max_probes
  pub ds : IsDerivNumber p.ds
  pub dt : IsDerivNumber p.dt

-- How far the middle of part j of n lies from the middle of an axis, along it, where the axis goes
-- d far: rounded down.
abbrev pub offset_of : ℕ → ℕ → ℤ → ℤ
offset_of n j d = rounded_down ((pos (2 * j + 1) -ℤ pos n) *ℤ d) (2 * n)

-- what is asked at a place of a lookup's image: trilinear, by its wraps and channels
abbrev pub asked_at : DerivRequest → ℤ → ℤ → ℕ → TexRequest
asked_at r s t lod = record {
  s = s;
  t = t;
  lod = lod;
  swrap = r.swrap;
  twrap = r.twrap;
  filter = Trilinear;
  nch = r.nch;
}

-- probe j of a plan
unfoldable pub probe_at : DerivRequest → ProbePlan → ℕ → TexRequest
probe_at r p j =
    asked_at r (r.s +ℤ offset_of p.n j p.ds) (r.t +ℤ offset_of p.n j p.dt) p.lod
