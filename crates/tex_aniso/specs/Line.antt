-- Where do probes along a line lie, which value has their lookup, and which texels does it visit?
-- (docs/FILTERING.md, "Given probes")
use Rattle.std.specs.Prelude.{ℕ, zero, suc, ◌+◌, ◌-◌, ◌*◌, ◌≤◌, ℤ, pos, ◌+ℤ◌, ◌*ℤ◌}
use Rattle.std.specs.Prelude.{List, [], ◌++◌, slice_index}
use Rattle.texel_filter.specs.declared.request.FineRequest.{FineRequest}
use Rattle.texel_filter.specs.declared.request.Filter.TheVariants.{Trilinear}
use Rattle.texel_filter.specs.Image.{Sizes, Image, Texel, IsChannelCount}
use Rattle.texel_filter.specs.Fine.{IsFineNumber}
use Rattle.texel_filter.specs.Filter.{trilinear_sum}
use Rattle.texel_filter.specs.Visits.{trilinear_visits}
use Rattle.tex_aniso.specs.declared.probe_line.ProbeLine.{ProbeLine}
use Rattle.tex_aniso.specs.Mean.{mean_of}

-- the most probes of a line
abbrev pub max_line_probes : ℕ
max_line_probes = 32

-- ---- places

-- where probe j lies, from a first place on, by a step
abbrev pub line_place : ℤ → ℤ → ℕ → ℤ
line_place first step j = first +ℤ pos j *ℤ step

-- probe j: a trilinear lookup by the line's LOD, wraps and channels
unfoldable pub line_probe : ProbeLine → ℕ → FineRequest
line_probe line j = record {
  s = line_place line.s line.ds j;
  t = line_place line.t line.dt j;
  lod = line.lod;
  swrap = line.swrap;
  twrap = line.twrap;
  filter = Trilinear;
  nch = line.nch;
}

-- ---- weights

-- the weight of probe j
abbrev pub weight_at : ProbeLine → ℕ → ℕ
weight_at line j = slice_index line.weights j

-- the weights of the first k probes together
unfoldable pub total_weight : ProbeLine → ℕ → ℕ
total_weight line zero = 0
total_weight line (suc k) = total_weight line k + weight_at line k

-- ---- values

-- the sum of a channel over the first k probes by their weights, none of them rounded
unfoldable pub line_sum : Image → ProbeLine → ℕ → ℕ → ℕ
line_sum image line c zero = 0
line_sum image line c (suc k) =
    line_sum image line c k + weight_at line k * trilinear_sum image (line_probe line k) c

-- channel c of the lookup: the weighted mean, rounded once, to the nearest, a half up
unfoldable pub line_value : Image → ProbeLine → ℕ → ℕ
line_value image line c =
    mean_of (total_weight line line.count) (line_sum image line c line.count)

-- ---- visits

-- the texels that the first k probes visit, probe 0 first; a weight of 0 leaves none out
unfoldable pub line_visits_upto : Sizes → ProbeLine → ℕ → List Texel
line_visits_upto sizes line zero = []
line_visits_upto sizes line (suc k) =
    line_visits_upto sizes line k ++ trilinear_visits sizes (line_probe line k)

-- those of the lookup
abbrev pub line_visits : Sizes → ProbeLine → List Texel
line_visits sizes line = line_visits_upto sizes line line.count

-- ---- which lines may be asked for

-- 1 to 32 probes with a weight above 0; the first and the last are in range
pub record IsProbeLine (line : ProbeLine) : Type 0 where
  pub some : 1 ≤ line.count
  pub few : line.count ≤ max_line_probes
  pub weight : 1 ≤ total_weight line line.count
  pub first_s : IsFineNumber line.s
  pub first_t : IsFineNumber line.t
  pub last_s : IsFineNumber (line_place line.s line.ds (line.count - 1))
  pub last_t : IsFineNumber (line_place line.t line.dt (line.count - 1))
  pub channels : IsChannelCount line.nch
