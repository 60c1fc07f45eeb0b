-- Which value does a lookup along a footprint have, and which texels does it visit?
-- (docs/FILTERING.md, "Footprints")
use Rattle.std.specs.Prelude.{ℕ, zero, suc, ◌+◌, ◌*◌, ◌/◌, ◌^◌, List, [], ◌++◌}
use Rattle.texel_filter.specs.declared.request.DerivRequest.{DerivRequest}
use Rattle.texel_filter.specs.declared.request.TexRequest.{TexRequest}
use Rattle.texel_filter.specs.Image.{Sizes, Image, Texel}
use Rattle.texel_filter.specs.Filter.{trilinear_sum}
use Rattle.texel_filter.specs.Visits.{trilinear_visits}
use Rattle.texel_filter.specs.Fine.{fine_of}
use Rattle.tex_aniso.specs.declared.probe_plan.ProbePlan.{ProbePlan}
use Rattle.tex_aniso.specs.Probe.{plan_of, probe_at, asked_at}

-- the plan of a lookup, by the size of level 0
abbrev pub plan_on : Sizes → DerivRequest → ProbePlan
plan_on sizes r = plan_of r (sizes.width 0) (sizes.height 0)

-- ---- values

-- the sum of a channel over the first k probes, none of them rounded
unfoldable pub probes_sum : Image → DerivRequest → ProbePlan → ℕ → ℕ → ℕ
probes_sum image r p c zero = 0
probes_sum image r p c (suc k) =
    probes_sum image r p c k + trilinear_sum image (fine_of (probe_at r p k)) c

-- the mean of n sums as a value, rounded once, to the nearest, a half up
abbrev pub mean_of : ℕ → ℕ → ℕ
mean_of n sum = (sum + n * 2 ^ 47) / (n * 2 ^ 48)

-- channel c of the lookup
unfoldable pub derivs_value : Image → DerivRequest → ℕ → ℕ
derivs_value image r c =
    let p = plan_on image.sizes r in mean_of p.n (probes_sum image r p c p.n)

-- the trilinear lookup at the middle of the footprint, which a single probe is
abbrev pub middle_of : Sizes → DerivRequest → TexRequest
middle_of sizes r = asked_at r r.s r.t ((plan_on sizes r).lod)

-- ---- visits

-- the texels that the first k probes visit, probe 0 first
unfoldable pub probes_visits : Sizes → DerivRequest → ProbePlan → ℕ → List Texel
probes_visits sizes r p zero = []
probes_visits sizes r p (suc k) =
    probes_visits sizes r p k ++ trilinear_visits sizes (fine_of (probe_at r p k))

-- those of the lookup
unfoldable pub derivs_visits : Sizes → DerivRequest → List Texel
derivs_visits sizes r = let p = plan_on sizes r in probes_visits sizes r p p.n
