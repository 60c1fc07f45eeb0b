-- Where probes of a line lie, what their weights are together, and what follows for the lookup.
use Rattle.std.proofs.Common.{◌≡◌, ℕ, zero, suc, ◌+◌, ◌-◌, ◌*◌, ◌^◌, ◌<◌, ◌≤◌, refl, arith}
use Rattle.std.proofs.Common.{ℤ, pos, negsuc, ◌++◌}
use Rattle.std.proofs.Common.{add-one, add-zero, add-suc, zero-add}
use Rattle.std.proofs.lemmas.Int.{ints}
use Rattle.std.proofs.lemmas.Bool.{cases_lt}
use Rattle.std.proofs.Common.{inl, inr, ◌≢◌}
use Rattle.std.proofs.Math.Nat.{mul-le-mul_right, mul-le-mul_left, mul-div-mul_left}
use Rattle.texel_filter.specs.Image.{Sizes, Image, Texel}
use Rattle.texel_filter.specs.Coordinate.{unit, level_before, fraction_of_next_level}
use Rattle.texel_filter.specs.Fine.{IsFineNumber}
use Rattle.texel_filter.specs.Filter.{trilinear_sum, trilinear_value, blended_sum, rounded_sum}
use Rattle.texel_filter.specs.Filter.{max_trilinear_sum}
use Rattle.texel_filter.specs.Weighted.{max_sum}
use Rattle.texel_filter.specs.Visits.{square_visits, trilinear_visits}
use Rattle.texel_filter.specs.declared.request.FineRequest.{FineRequest}
use Rattle.texel_filter.specs.declared.coordinate.LevelPair.{LevelPair}
use Rattle.texel_filter.proofs.FilterLemmas.{visits_alone, visits_between}
use Rattle.texel_filter.specs.Calls.{EachAnswered, OneRefused}
use Rattle.texel_filter.proofs.CallLemmas.{refused_before, refused_append, each_append}
use Rattle.tex_aniso.specs.declared.probe_line.ProbeLine.{ProbeLine}
use Rattle.tex_aniso.specs.Line.{line_place, total_weight, weight_at, line_probe, line_sum}
use Rattle.tex_aniso.specs.Line.{line_value, line_visits_upto, line_visits}
use Rattle.tex_aniso.specs.Mean.{mean_of}

-- a place between two that are in range is in range
pub place_between : (first step : ℤ) (j m : ℕ) → j ≤ m → IsFineNumber first
    → IsFineNumber (line_place first step m) → IsFineNumber (line_place first step j)
place_between first (pos a) j m within begin end =
    let below : j * a ≤ m * a = mul-le-mul_right a within in
    record {
      low = omega (arith, ints, begin.low, end.high, below);
      high = omega (arith, ints, begin.low, end.high, below);
    }
place_between first (negsuc a) j m within begin end =
    let below : j * suc a ≤ m * suc a = mul-le-mul_right (suc a) within in
    record {
      low = omega (arith, ints, begin.high, end.low, below);
      high = omega (arith, ints, begin.high, end.low, below);
    }

pub total_more : (line : ProbeLine) (k : ℕ)
    → total_weight line (k + 1) ≡ total_weight line k + weight_at line k
unfolding total_weight
total_more line k = rw add-one refl

-- the first probes have no more weight than more of them
pub total_upto : (line : ProbeLine) (j k : ℕ) → total_weight line j ≤ total_weight line (j + k)
total_upto line j zero = rw add-zero (omega arith)
total_upto line j (suc k) =
    let more = total_more line (j + k) in
    let e : j + suc k ≡ (j + k) + 1 = omega arith in
    rw e (omega (arith, total_upto line j k, more))

pub total_within : (line : ProbeLine) (j count : ℕ) → j < count
    → total_weight line j + weight_at line j ≤ total_weight line count
total_within line j count below =
    let e : (j + 1) + (count - (j + 1)) ≡ count = omega arith in
    let upto = rw e at (total_upto line (j + 1) (count - (j + 1))) in
    omega (arith, upto, total_more line j)

pub line_sum_more : (image : Image) (line : ProbeLine) (c k : ℕ)
    → line_sum image line c (k + 1)
    ≡ line_sum image line c k + weight_at line k * trilinear_sum image (line_probe line k) c
unfolding line_sum
line_sum_more image line c k = rw add-one refl

pub line_visits_more : (sizes : Sizes) (line : ProbeLine) (k : ℕ)
    → line_visits_upto sizes line (k + 1)
    ≡ line_visits_upto sizes line k ++ trilinear_visits sizes (line_probe line k)
unfolding line_visits_upto
line_visits_more sizes line k = rw add-one refl

-- what is refused among the first probes is refused among more
refused_upto : {S E : Type 0} (leaves : S → Texel → S → Type 0)
    (refuses : S → Texel → E → S → Type 0) (old new : S) (sizes : Sizes) (line : ProbeLine)
    (k m : ℕ) (e : E)
    → OneRefused leaves refuses old (line_visits_upto sizes line k) e new
    → OneRefused leaves refuses old (line_visits_upto sizes line (k + m)) e new
unfolding line_visits_upto
refused_upto leaves refuses old new sizes line k zero e h = rw add-zero h
refused_upto leaves refuses old new sizes line k (suc m) e h =
    rw add-suc
    (refused_before leaves refuses old new _ _ e
    (refused_upto leaves refuses old new sizes line k m e h))

pub refused_at : {S E : Type 0} (leaves : S → Texel → S → Type 0)
    (refuses : S → Texel → E → S → Type 0) (old mid new : S) (sizes : Sizes) (line : ProbeLine)
    (j : ℕ) (e : E) → j < line.count
    → EachAnswered leaves old (line_visits_upto sizes line j) mid
    → OneRefused leaves refuses mid (trilinear_visits sizes (line_probe line j)) e new
    → OneRefused leaves refuses old (line_visits sizes line) e new
refused_at leaves refuses old mid new sizes line j e below before here =
    let among = refused_append leaves refuses old mid new (line_visits_upto sizes line j)
    (trilinear_visits sizes (line_probe line j)) e before here in
    let upto = rw (← line_visits_more sizes line j) at among in
    let whole : (j + 1) + (line.count - (j + 1)) ≡ line.count = omega arith in
    rw whole at
    (refused_upto leaves refuses old new sizes line (j + 1) (line.count - (j + 1)) e upto)

pub answered_at : {S : Type 0} (leaves : S → Texel → S → Type 0) (old mid new : S) (sizes : Sizes)
    (line : ProbeLine) (j : ℕ) → EachAnswered leaves old (line_visits_upto sizes line j) mid
    → EachAnswered leaves mid (trilinear_visits sizes (line_probe line j)) new
    → EachAnswered leaves old (line_visits_upto sizes line (j + 1)) new
answered_at leaves old mid new sizes line j before here =
    rw (line_visits_more sizes line j)
    (each_append leaves old mid new (line_visits_upto sizes line j)
    (trilinear_visits sizes (line_probe line j)) before here)

-- a probe that is refused in its first level is refused, whether it has a second one or not
pub refused_first : {S E : Type 0} (leaves : S → Texel → S → Type 0)
    (refuses : S → Texel → E → S → Type 0) (old new : S) (sizes : Sizes) (r : FineRequest)
    (levels : LevelPair) (e : E)
    → levels.first ≡ level_before r.lod sizes.levels
    → levels.fraction ≡ fraction_of_next_level r.lod sizes.levels
    → OneRefused leaves refuses old (square_visits sizes r levels.first) e new
    → OneRefused leaves refuses old (trilinear_visits sizes r) e new
refused_first leaves refuses old new sizes r levels e first fraction h =
    elim (cases_lt 0 levels.fraction) [
      | inl some ↦
          (let more : levels.fraction ≢ 0 = omega arith in
          rw (← visits_between sizes r levels first fraction more)
          (refused_before leaves refuses old new _ _ e h))
      | inr none ↦
          (let zero_is : levels.fraction ≡ 0 = omega arith in
          rw (← visits_alone sizes r levels.first levels.fraction first fraction zero_is) h)
    ]

-- a probe has the channels and the LOD of its line
pub probe_channels : (line : ProbeLine) (j : ℕ) → (line_probe line j).nch ≡ line.nch
unfolding line_probe
probe_channels line j = refl

pub probe_lod : (line : ProbeLine) (j : ℕ) → (line_probe line j).lod ≡ line.lod
unfolding line_probe
probe_lod line j = refl

-- ---- sums in two levels

-- a level alone
pub blended_alone : (w old sum c t q s : ℕ) → q ≡ 0 → sum ≡ old + w * c → t ≡ unit * c
    → blended_sum q sum s ≡ blended_sum q old s + w * t
blended_alone w old sum c t q s none is tri = rw (none, is, tri) (grind arith)

-- two levels
blended_parts : (p q a b w c d : ℕ)
    → p * (a + w * c) + q * (b + w * d) ≡ (p * a + q * b) + w * (p * c + q * d)
blended_parts p q a b w c d = grind arith

pub blended_both : (q a b w c d na nb t : ℕ) → na ≡ a + w * c → nb ≡ b + w * d
    → t ≡ blended_sum q c d → blended_sum q na nb ≡ blended_sum q a b + w * t
blended_both q a b w c d na nb t first second tri =
    rw (first, second, tri) (blended_parts (unit - q) q a b w c d)

-- blended sums are no greater than the greater of both
upto_parts : (p q a b most : ℕ) → a ≤ most → b ≤ most → p * a + q * b ≤ (p + q) * most
upto_parts p q a b most first second =
    omega (arith, mul-le-mul_left p first, mul-le-mul_left q second)

pub blended_upto : (q a b total : ℕ) → q < unit → a ≤ total * max_sum → b ≤ total * max_sum
    → blended_sum q a b ≤ total * max_trilinear_sum
blended_upto q a b total below first second =
    let parts = upto_parts (unit - q) q a b (total * max_sum) first second in
    let whole : (unit - q) + q ≡ unit = omega arith in
    omega (arith, rw whole at parts)

-- ---- of the whole lookup

pub line_value_is : (image : Image) (line : ProbeLine) (c total sum : ℕ)
    → total ≡ total_weight line line.count → sum ≡ line_sum image line c line.count
    → mean_of total sum ≡ line_value image line c
unfolding line_value
line_value_is image line c total sum weight is = rw (weight, is)

first_weight : (line : ProbeLine) (k : ℕ) → k ≡ 1 → total_weight line k ≡ weight_at line 0
unfolding total_weight
first_weight line k one = rw (one, zero-add) refl

first_sum : (image : Image) (line : ProbeLine) (c k : ℕ) → k ≡ 1
    → line_sum image line c k ≡ weight_at line 0 * trilinear_sum image (line_probe line 0) c
unfolding line_sum
first_sum image line c k one = rw (one, zero-add) refl

-- one probe alone, whatever its weight
mean_of_one : (w tri : ℕ) → 1 ≤ w → mean_of w (w * tri) ≡ rounded_sum tri
mean_of_one w tri some =
    let e : w * tri + w * 2 ^ 47 ≡ w * (tri + 2 ^ 47) = grind arith in
    rw e (mul-div-mul_left {m = w} (tri + 2 ^ 47) (2 ^ 48) (omega arith))

pub line_value_alone : (image : Image) (line : ProbeLine) (c : ℕ) → line.count ≡ 1
    → 1 ≤ total_weight line line.count
    → line_value image line c ≡ trilinear_value image (line_probe line 0) c
unfolding line_value trilinear_value
line_value_alone image line c one some =
    let w = weight_at line 0 in
    let weight : total_weight line line.count ≡ w = first_weight line line.count one in
    let sum : line_sum image line c line.count ≡ w * trilinear_sum image (line_probe line 0) c =
    first_sum image line c line.count one in
    rw (weight, sum) (mean_of_one w _ (omega arith))
