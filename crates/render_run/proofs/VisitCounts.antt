-- How many texels does a lookup visit at most?
use Rattle.std.proofs.Common.{ℕ, zero, suc, ◌+◌, ◌*◌, ◌≤◌, ◌==◌, Bool, true, false, List, ◌++◌}
use Rattle.std.proofs.Common.{length, Option, Some, None, if◌then◌else◌, ℤ, pos, ◌+ℤ◌, arith}
use Rattle.std.proofs.lemmas.List.{length-append}
use Rattle.texel_filter.specs.declared.request.FineRequest.{FineRequest}
use Rattle.texel_filter.specs.declared.request.DerivRequest.{DerivRequest}
use Rattle.texel_filter.specs.declared.request.Filter.{Filter}
use Rattle.texel_filter.specs.declared.request.Filter.TheVariants.{Closest, Bilinear, Trilinear}
use Rattle.texel_filter.specs.Fine.{fine_of}
use Rattle.texel_filter.specs.Image.{Sizes, Texel}
use Rattle.texel_filter.specs.Coordinate.{fraction_of_next_level, level_before, nearest_level, index_at}
use Rattle.texel_filter.specs.Coordinate.{index_before}
use Rattle.texel_filter.specs.WrapMode.{wrapped_index}
use Rattle.texel_filter.specs.Visits.{visit_in, square_visits, trilinear_visits, lookup_visits}
use Rattle.texel_filter.specs.Visits.{visits_by, wrapped_visit}
use Rattle.tex_aniso.specs.declared.probe_plan.ProbePlan.{ProbePlan}
use Rattle.tex_aniso.specs.Probe.{probe_at, plan_of}
use Rattle.tex_aniso.specs.Mean.{plan_on, probes_visits, derivs_visits}
use Rattle.texture_sys.specs.declared.lookup_request.LookupRequest.{LookupRequest}
use Rattle.texture_sys.specs.declared.lookup_request.LookupRequest.TheVariants.{Point, Footprint}
use Rattle.texture_sys.specs.Asked.{asked_visits}

visit_few : (l : ℕ) (x y : Option ℕ) → length (visit_in l x y) ≤ 1
visit_few l (Some x) (Some y) = omega arith
visit_few l (Some x) None = omega arith
visit_few l None y = omega arith

four_few : (a b c d : List Texel) → length a ≤ 1 → length b ≤ 1 → length c ≤ 1 → length d ≤ 1
    → length (a ++ b ++ c ++ d) ≤ 4
four_few a b c d la lb lc ld =
    omega (
      arith,
      length-append (a ++ b ++ c) d,
      length-append (a ++ b) c,
      length-append a b,
      la,
      lb,
      lc,
      ld,
    )

module _ (sizes : Sizes) (r : FineRequest) where
  wrapped_few : (l : ℕ) (i j : ℤ) → length (wrapped_visit sizes r l i j) ≤ 1
  wrapped_few l i j =
      visit_few l (wrapped_index r.swrap i (sizes.width l)) (wrapped_index r.twrap j (sizes.height l))

  square_few : (l : ℕ) → length (square_visits sizes r l) ≤ 4
  unfolding square_visits
  square_few l =
      let i = index_before r.s (sizes.width l) in
      let j = index_before r.t (sizes.height l) in
      four_few (wrapped_visit sizes r l i j) (wrapped_visit sizes r l (i +ℤ pos 1) j)
      (wrapped_visit sizes r l i (j +ℤ pos 1)) (wrapped_visit sizes r l (i +ℤ pos 1) (j +ℤ pos 1))
      (wrapped_few l i j) (wrapped_few l (i +ℤ pos 1) j) (wrapped_few l i (j +ℤ pos 1))
      (wrapped_few l (i +ℤ pos 1) (j +ℤ pos 1))

  pair_few : (b : Bool) (l m : ℕ) → length (if b then square_visits sizes r l
      else square_visits sizes r l ++ square_visits sizes r m) ≤ 8
  pair_few true l m = omega (arith, square_few l)
  pair_few false l m =
      omega (
        arith,
        length-append (square_visits sizes r l) (square_visits sizes r m),
        square_few l,
        square_few m,
      )

  trilinear_few : length (trilinear_visits sizes r) ≤ 8
  unfolding trilinear_visits
  trilinear_few =
      pair_few (fraction_of_next_level r.lod sizes.levels == 0) (level_before r.lod sizes.levels)
      (level_before r.lod sizes.levels + 1)

  by_filter : (f : Filter) → length (visits_by f sizes r) ≤ 8
  by_filter Closest =
      let l = nearest_level r.lod sizes.levels in
      omega (
        arith,
        wrapped_few l (index_at r.s (sizes.width l)) (index_at r.t (sizes.height l)),
      )
  by_filter Bilinear = omega (arith, square_few (nearest_level r.lod sizes.levels))
  by_filter Trilinear = trilinear_few

  point_few : length (lookup_visits sizes r) ≤ 8
  point_few = by_filter r.filter

-- the visits of k probes
probes_few : (sizes : Sizes) (r : DerivRequest) (p : ProbePlan) (k : ℕ)
    → length (probes_visits sizes r p k) ≤ 8 * k
unfolding probes_visits
probes_few sizes r p zero = omega arith
probes_few sizes r p (suc k) =
    omega (
      arith,
      length-append (probes_visits sizes r p k) (trilinear_visits sizes (fine_of (probe_at r p k))),
      probes_few sizes r p k,
      trilinear_few sizes (fine_of (probe_at r p k)),
    )

probes_most : (r : DerivRequest) (w h : ℕ) → (plan_of r w h).n ≤ 8
unfolding plan_of
probes_most r w h = omega arith

footprint_few : (sizes : Sizes) (r : DerivRequest) → length (derivs_visits sizes r) ≤ 64
unfolding derivs_visits
footprint_few sizes r =
    let p = plan_on sizes r in
    omega (arith, probes_few sizes r p p.n, probes_most r (sizes.width 0) (sizes.height 0))

pub visits_few : (sizes : Sizes) (r : LookupRequest) → length (asked_visits sizes r) ≤ 64
visits_few sizes (Point r) = omega (arith, point_few sizes (fine_of r))
visits_few sizes (Footprint r) = footprint_few sizes r
