use Rattle.std.proofs.Common.{◌≡◌, ◌≢◌, ◌*◌, ◌<◌, ◌≤◌, inl, inr, refl, sym, ◌∙◌, arith, ap}
use Rattle.std.proofs.lemmas.Bool.{cases_lt}
use Rattle.std.proofs.lemmas.List.{length-set}
use Rattle.tex_aniso.specs.Bell.{bell_weight}
use Rattle.tex_aniso.specs.Ellipse.{apart_by, side_weight}
use Rattle.tex_aniso.proofs.WeightLemmas.{placed_here, placed_else, are_weights, weight_within}
use Rattle.tex_aniso.proofs.WeightLemmas.{weight_behind, no_weights}
use Rattle.tex_aniso.proofs.bell.Bell.weights.Goals as goal

pub loop-j-init : goal.loop-j-init
loop-j-init c = record {
  long = refl;
  near = λ i below less. absurd (omega (arith, less));
  far = λ i below more. no_weights i;
}

pub loop-j-preserved : goal.loop-j-preserved
loop-j-preserved c =
    let n = c.args.sides in
    let j = c.loop-j.j in
    let x = c.weight-weight.result in
    let so_far = c.loop-j.invariant in
    let within : j ≤ n = omega arith in
    record {
      long = simp length-set so_far.long;
      near = λ i below less.
          elim (cases_lt (apart_by i n) j) [
            | inl nearer ↦
                (let not : apart_by i n ≢ j = omega arith in
                placed_else c.loop-j.weights n j x i within not ∙ so_far.near i below nearer)
            | inr here ↦
                (let is : apart_by i n ≡ j = omega (arith, less, here) in
                placed_here c.loop-j.weights n j x i so_far.long c.requires.few within is
                ∙ c.weight-weight.ensures.value
                ∙ ap (λ k. bell_weight c.args.self.now.reach k) (sym is))
          ];
      far = λ i below more.
          let not : apart_by i n ≢ j = omega (arith, more) in
          let past : j ≤ apart_by i n = omega (arith, more) in
          placed_else c.loop-j.weights n j x i within not ∙ so_far.far i below past;
    }

pub returns : goal.returns
returns c =
    let n = c.args.sides in
    let reach = c.args.self.now.reach in
    let all = c.loop-j.invariant in
    record {
      value = are_weights c.loop-j.weights (side_weight reach n) all.long
          (λ i below.
          elim (cases_lt (2 * n) i) [
            | inl behind ↦
                (let past : c.loop-j.j ≤ apart_by i n = omega (arith, behind) in
                all.far i below past ∙ weight_behind reach n i behind)
            | inr upto ↦
                (let near : apart_by i n < c.loop-j.j = omega (arith, upto) in
                all.near i below near ∙ weight_within reach n i upto)
          ]);
    }
