-- What is true of the probes of a footprint.
use Rattle.std.proofs.Common.{◌≡◌, ℕ, zero, suc, ◌+◌, ◌-◌, ◌*◌, ◌^◌, ◌<◌, ◌≤◌, refl, ap, sym, ◌∙◌, arith}
use Rattle.std.proofs.Common.{ℤ, pos, negsuc, ◌+ℤ◌, ◌-ℤ◌, ◌*ℤ◌, unsigned_abs}
use Rattle.std.proofs.lemmas.Int.{ints, unsigned_abs-mul}
use Rattle.std.proofs.lemmas.Nat.{mul-le}
use Rattle.texel_filter.specs.Fine.{IsFineNumber}
use Rattle.tex_aniso.specs.declared.ellipse_request.EllipseRequest.{EllipseRequest}
use Rattle.tex_aniso.specs.declared.probe_line.ProbeLine.{ProbeLine}
use Rattle.tex_aniso.specs.Shape.{IsMiddle, IsEllipseRequest}
use Rattle.tex_aniso.specs.ShapeSteps.{IsUpTo}
use Rattle.tex_aniso.specs.Bell.{half_step, bell_weight, used_count}
use Rattle.tex_aniso.specs.Line.{line_place, weight_at, total_weight, IsProbeLine}
use Rattle.tex_aniso.specs.Ellipse.{apart_by, side_weight, first_weight}
use Rattle.tex_aniso.specs.Ellipse.{line_alone, line_along, AreEllipseProbes}
use Rattle.tex_aniso.proofs.AxisLemmas.{abs_upto}
use Rattle.tex_aniso.proofs.LineLemmas.{total_more}
use Rattle.tex_aniso.proofs.WeightLemmas.{weights_at, weight_within}
use Rattle.tex_aniso.proofs.BellWeights.{side_sum, sum_next, sum_none, weights_short, used_weight}
use Rattle.tex_aniso.proofs.BellWeights.{used_upto}

-- ---- the sum of the weights of a line

module _ (line : ProbeLine) (reach n : ℕ)
    (at : (i : ℕ) → i ≤ 2 * n → weight_at line i ≡ bell_weight reach (apart_by i n)) where
  up_to_middle : (i : ℕ) → i ≤ n
      → total_weight line i + side_sum reach (n - i) ≡ side_sum reach n
  unfolding total_weight
  up_to_middle zero within =
      let e : n - 0 ≡ n = omega arith in rw e (omega arith)
  up_to_middle (suc i) within =
      let before = up_to_middle i (omega arith) in
      let here = at i (omega arith) in
      let far : apart_by i n ≡ n - i = omega arith in
      let e : n - i ≡ suc (n - suc i) = omega arith in
      let next = sum_next reach (n - suc i) in
      let weight = here ∙ ap (λ k. bell_weight reach k) (far ∙ e) in
      let sum = rw e at before in
      omega (arith, sum, weight, next)

  past_middle : (k : ℕ) → k ≤ n → total_weight line (n + 1 + k)
      ≡ side_sum reach n + bell_weight reach 0 + side_sum reach k
  past_middle zero within =
      let e : n + 1 + 0 ≡ n + 1 = omega arith in
      let left = up_to_middle n (omega arith) in
      let none : n - n ≡ 0 = omega arith in
      let all = rw none at left in
      let here = at n (omega arith) in
      let far : apart_by n n ≡ 0 = omega arith in
      let weight = here ∙ ap (λ k. bell_weight reach k) far in
      rw e (omega (arith, total_more line n, all, weight, sum_none reach))
  past_middle (suc k) within =
      let before = past_middle k (omega arith) in
      let here = at (n + 1 + k) (omega arith) in
      let far : apart_by (n + 1 + k) n ≡ suc k = omega arith in
      let weight = here ∙ ap (λ j. bell_weight reach j) far in
      let e : n + 1 + suc k ≡ n + 1 + k + 1 = omega arith in
      rw e (omega (arith, total_more line (n + 1 + k), before, weight, sum_next reach k))

  pub whole_weight_is : total_weight line (2 * n + 1)
      ≡ 2 * side_sum reach n + bell_weight reach 0
  whole_weight_is =
      let e : n + 1 + n ≡ 2 * n + 1 = omega arith in
      let all = rw e at (past_middle n (omega arith)) in
      omega (arith, all)

-- ---- one probe alone

alone_at : (r : EllipseRequest) (lod : ℕ) → weight_at (line_alone r lod) 0 ≡ 1
alone_at r lod = weights_at first_weight 0 (omega arith)

none_yet : (line : ProbeLine) → total_weight line 0 ≡ 0
unfolding total_weight
none_yet line = refl

alone_total : (r : EllipseRequest) (lod : ℕ) → total_weight (line_alone r lod) 1 ≡ 1
alone_total r lod =
    omega (arith, total_more (line_alone r lod) 0, none_yet (line_alone r lod), alone_at r lod)

middle_fine : (z : ℤ) → IsMiddle z → IsFineNumber z
middle_fine z is = record { low = omega (arith, ints, is.low); high = omega (arith, ints, is.high) }

here_fine : (z : ℤ) → IsMiddle z → IsFineNumber (line_place z (pos 0) (1 - 1))
here_fine z is = record { low = omega (arith, ints, is.low); high = omega (arith, ints, is.high) }

pub alone_line : (r : EllipseRequest) (lod : ℕ) → IsEllipseRequest r
    → IsProbeLine (line_alone r lod)
alone_line r lod is = record {
  some = omega arith;
  few = omega arith;
  weight = omega (arith, alone_total r lod);
  first_s = middle_fine r.s is.s;
  first_t = middle_fine r.t is.t;
  last_s = here_fine r.s is.s;
  last_t = here_fine r.t is.t;
  channels = is.channels;
}

pub alone_probes : (r : EllipseRequest) (lod : ℕ) → IsEllipseRequest r
    → AreEllipseProbes r.max_probes (line_alone r lod)
alone_probes r lod is = record {
  odd = (0, refl);
  few = is.some;
  symmetric = λ i below.
      let e : i ≡ 0 = omega (arith, below) in
      rw e refl;
  weighty = λ i below.
      let e : i ≡ 0 = omega (arith, below) in
      rw e (omega (arith, alone_at r lod));
  together = omega (arith, alone_total r lod);
}

-- ---- probes on both sides

step_upto : (n : ℕ) (d : ℤ) → n ≤ 15 → unsigned_abs d ≤ 2 ^ 41
    → IsUpTo (pos n *ℤ d) (15 * 2 ^ 41)
step_upto n d few near =
    let product : unsigned_abs (pos n *ℤ d) ≡ n * unsigned_abs d = unsigned_abs-mul (pos n) d in
    let most = mul-le n (unsigned_abs d) 15 (2 ^ 41) few near in
    abs_upto (pos n *ℤ d) (15 * 2 ^ 41) (omega (arith, product, most))

first_fine : (z d : ℤ) (n : ℕ) → IsMiddle z → n ≤ 15 → unsigned_abs d ≤ 2 ^ 41
    → IsFineNumber (z -ℤ pos n *ℤ d)
first_fine z d n is few near =
    let far = step_upto n d few near in
    record {
      low = omega (arith, ints, is.low, far.high);
      high = omega (arith, ints, is.high, far.low);
    }

twice : (n : ℕ) (d : ℤ) → pos (2 * n + 1 - 1) *ℤ d ≡ pos n *ℤ d +ℤ pos n *ℤ d
twice n (pos a) =
    let e : (2 * n + 1 - 1) * a ≡ n * a + n * a =
    (let f : 2 * n + 1 - 1 ≡ 2 * n = omega arith in rw f (omega arith)) in
    omega (arith, ints, e)
twice n (negsuc a) =
    let e : (2 * n + 1 - 1) * suc a ≡ n * suc a + n * suc a =
    (let f : 2 * n + 1 - 1 ≡ 2 * n = omega arith in rw f (omega arith)) in
    omega (arith, ints, e)

last_fine : (z d : ℤ) (n : ℕ) → IsMiddle z → n ≤ 15 → unsigned_abs d ≤ 2 ^ 41
    → IsFineNumber (line_place (z -ℤ pos n *ℤ d) d (2 * n + 1 - 1))
last_fine z d n is few near =
    let far = step_upto n d few near in
    let e = twice n d in
    record {
      low = omega (arith, ints, is.low, far.low, e);
      high = omega (arith, ints, is.high, far.high, e);
    }

along_at : (r : EllipseRequest) (lod n reach : ℕ) (ds dt : ℤ) (i : ℕ) → n ≤ 15 → i ≤ 2 * n
    → weight_at (line_along r lod n reach ds dt) i ≡ bell_weight reach (apart_by i n)
along_at r lod n reach ds dt i few within =
    weights_at (side_weight reach n) i (omega (arith, few, within))
    ∙ sym (weight_within reach n i within)

module _ (r : EllipseRequest) (lod n reach : ℕ) (ds dt : ℤ) (few : n ≤ 15) (low : half_step < reach)
    (high : reach < 2 ^ 19) (used : n ≡ used_count reach) where
  line : ProbeLine
  line = line_along r lod n reach ds dt

  at : (i : ℕ) → i ≤ 2 * n
      → weight_at (line_along r lod n reach ds dt) i ≡ bell_weight reach (apart_by i n)
  at i within = along_at r lod n reach ds dt i few within

  along_total : total_weight (line_along r lod n reach ds dt) (2 * n + 1)
      ≡ 2 * side_sum reach n + bell_weight reach 0
  along_total = whole_weight_is (line_along r lod n reach ds dt) reach n at

  first_some : 1 ≤ bell_weight reach 0
  first_some = used_weight reach 0 low high (omega arith)

  pub along_line : IsEllipseRequest r → unsigned_abs ds ≤ 2 ^ 41 → unsigned_abs dt ≤ 2 ^ 41
      → IsProbeLine (line_along r lod n reach ds dt)
  along_line is across down = record {
    some = omega arith;
    few = omega (arith, few);
    weight = omega (arith, along_total, first_some);
    first_s = first_fine r.s ds n is.s few across;
    first_t = first_fine r.t dt n is.t few down;
    last_s = last_fine r.s ds n is.s few across;
    last_t = last_fine r.t dt n is.t few down;
    channels = is.channels;
  }

  pub along_probes : (most : ℕ) → 2 * n + 1 ≤ most
      → AreEllipseProbes most (line_along r lod n reach ds dt)
  along_probes most within =
      let upto = used_upto reach in
      let short = weights_short reach n low (rw used upto) in
      record {
        odd = (n, refl);
        few = within;
        symmetric = λ i below.
            let here = at i (omega (arith, below)) in
            let there = at (2 * n + 1 - 1 - i) (omega (arith, below)) in
            let e : apart_by i n ≡ apart_by (2 * n + 1 - 1 - i) n = omega (arith, below) in
            here ∙ ap (λ k. bell_weight reach k) e ∙ sym there;
        weighty = λ i below.
            let here = at i (omega (arith, below)) in
            let near : apart_by i n ≤ used_count reach = omega (arith, below, used) in
            let some = used_weight reach (apart_by i n) low high near in
            omega (arith, here, some);
        together = omega (arith, along_total, short);
      }
