-- The sums and the visits of the first probes, one probe after another.
use Rattle.std.proofs.Common.{◌≡◌, ℕ, zero, suc, ◌+◌, List, [], ◌∷◌, ◌++◌, slice_index}
use Rattle.std.proofs.Common.{refl, ap, ◌∙◌, arith, add-one, add-zero, add-suc, zero-add}
use Rattle.std.proofs.Common.{pos, ◌+ℤ◌}
use Rattle.std.proofs.lemmas.Int.{ints}
use Rattle.texel_filter.specs.declared.request.DerivRequest.{DerivRequest}
use Rattle.texel_filter.specs.Image.{Sizes, Image, Texel}
use Rattle.texel_filter.specs.Filter.{trilinear_sum, trilinear_value}
use Rattle.texel_filter.specs.Visits.{trilinear_visits}
use Rattle.texel_filter.specs.Fine.{fine_of}
use Rattle.texel_filter.specs.Calls.{OneRefused}
use Rattle.texel_filter.proofs.CallLemmas.{refused_before}
use Rattle.tex_aniso.specs.declared.probe_plan.ProbePlan.{ProbePlan}
use Rattle.tex_aniso.specs.Probe.{probe_at, asked_at}
use Rattle.tex_aniso.specs.Mean.{plan_on, probes_sum, mean_of, derivs_value, middle_of}
use Rattle.tex_aniso.specs.Mean.{probes_visits, derivs_visits}
use Rattle.tex_aniso.proofs.PlaceLemmas.{offset_alone}

pub sum_more : (image : Image) (r : DerivRequest) (p : ProbePlan) (c k : ℕ)
    → probes_sum image r p c (k + 1)
    ≡ probes_sum image r p c k + trilinear_sum image (fine_of (probe_at r p k)) c
unfolding probes_sum
sum_more image r p c k = rw add-one refl

pub visits_more : (sizes : Sizes) (r : DerivRequest) (p : ProbePlan) (k : ℕ)
    → probes_visits sizes r p (k + 1)
    ≡ probes_visits sizes r p k ++ trilinear_visits sizes (fine_of (probe_at r p k))
unfolding probes_visits
visits_more sizes r p k = rw add-one refl

-- what is refused among the first probes is refused among more
pub refused_among : {S E : Type 0} (leaves : S → Texel → S → Type 0)
    (refuses : S → Texel → E → S → Type 0) (old new : S) (sizes : Sizes) (r : DerivRequest)
    (p : ProbePlan) (k m : ℕ) (e : E)
    → OneRefused leaves refuses old (probes_visits sizes r p k) e new
    → OneRefused leaves refuses old (probes_visits sizes r p (k + m)) e new
unfolding probes_visits
refused_among leaves refuses old new sizes r p k zero e h = rw add-zero h
refused_among leaves refuses old new sizes r p k (suc m) e h =
    rw add-suc
    (refused_before leaves refuses old new _ _ e
    (refused_among leaves refuses old new sizes r p k m e h))

-- no sum before the first probe
abbrev AreZero : List ℕ → Type 0
AreZero [] = Unit {0}
AreZero (x ∷ xs) = (x ≡ 0) × AreZero xs

zero_in : (xs : List ℕ) → AreZero xs → (c : ℕ) → slice_index xs c ≡ 0
zero_in [] are c = refl
zero_in (x ∷ xs) are zero = are.0
zero_in (x ∷ xs) are (suc c) = zero_in xs are.1 c

pub zeros_at : (c : ℕ) → slice_index (0 ∷ 0 ∷ 0 ∷ 0 ∷ 0 ∷ 0 ∷ 0 ∷ 0 ∷ []) c ≡ 0
zeros_at c = zero_in (0 ∷ 0 ∷ 0 ∷ 0 ∷ 0 ∷ 0 ∷ 0 ∷ 0 ∷ [])
    (refl, (refl, (refl, (refl, (refl, (refl, (refl, (refl, tt)))))))) c

-- a probe has the channels of its lookup
pub channels_at : (r : DerivRequest) (p : ProbePlan) (j : ℕ) → (probe_at r p j).nch ≡ r.nch
unfolding probe_at
channels_at r p j = refl

-- ---- of the whole lookup

pub value_of_plan : (image : Image) (r : DerivRequest) (p : ProbePlan) (c : ℕ)
    → p ≡ plan_on image.sizes r
    → mean_of p.n (probes_sum image r p c p.n) ≡ derivs_value image r c
unfolding derivs_value
value_of_plan image r p c is = ap (λ q. mean_of q.n (probes_sum image r q c q.n)) is

pub visits_of_plan : (sizes : Sizes) (r : DerivRequest) (p : ProbePlan)
    → p ≡ plan_on sizes r → probes_visits sizes r p p.n ≡ derivs_visits sizes r
unfolding derivs_visits
visits_of_plan sizes r p is = ap (λ q. probes_visits sizes r q q.n) is

-- ---- of a single probe

probe_alone : (r : DerivRequest) (p : ProbePlan) → p.n ≡ 1
    → probe_at r p 0 ≡ asked_at r r.s r.t p.lod
unfolding probe_at
probe_alone r p one =
    let s : r.s +ℤ pos 0 ≡ r.s = omega (arith, ints) in
    let t : r.t +ℤ pos 0 ≡ r.t = omega (arith, ints) in
    rw (one, offset_alone p.ds, offset_alone p.dt, s, t) refl

mean_alone : (image : Image) (r : DerivRequest) (p : ProbePlan) (c : ℕ) → p.n ≡ 1
    → mean_of p.n (probes_sum image r p c p.n)
    ≡ trilinear_value image (fine_of (asked_at r r.s r.t p.lod)) c
unfolding probes_sum trilinear_value
mean_alone image r p c one =
    ap (λ n. mean_of n (probes_sum image r p c n)) one
    ∙ rw (probe_alone r p one, zero-add) refl

pub value_alone : (image : Image) (r : DerivRequest) (c : ℕ) → (plan_on image.sizes r).n ≡ 1
    → derivs_value image r c ≡ trilinear_value image (fine_of (middle_of image.sizes r)) c
unfolding derivs_value
value_alone image r c one = mean_alone image r (plan_on image.sizes r) c one
