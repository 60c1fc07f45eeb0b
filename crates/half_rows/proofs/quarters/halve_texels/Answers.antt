use Rattle.std.proofs.Common.{◌≡◌, ℕ, ◌+◌, ◌*◌, ◌<◌, ◌∙◌, subst, arith, inl, inr}
use Rattle.std.proofs.lemmas.Bool.{cases_lt}
use Rattle.std.proofs.lemmas.Nat.{mul-add-lt}
use Rattle.tile_store.specs.SampleRow.{top_of, bottom_of}
use Rattle.half_rows.specs.Quarters.{row_sample, row_average}
use Rattle.half_rows.proofs.quarters.halve_texels.Goals as goal

pub loop-i-preserved : goal.loop-i-preserved
loop-i-preserved c =
    let n = c.args.channels in
    let top = top_of c.args.rows.now in
    let bottom = bottom_of c.args.rows.now in
    let done = c.loop-i.i in
    let out = c.halve_texel.new.out in
    record {
      long = omega (arith, c.halve_texel.ensures.long, c.loop-i.invariant.long);
      each = λ i k below channel. elim (cases_lt i done) [
        | inl before ↦
            let at : i * n + k < done * n =
            omega (arith, mul-add-lt i n k done before channel) in
            c.halve_texel.ensures.before (i * n + k) at
            ∙ c.loop-i.invariant.each i k before channel
        | inr behind ↦
            let is : done ≡ i = omega arith in
            subst (λ (i : ℕ). row_sample n out i k ≡ row_average n top bottom (2 * i) (2 * i + 1) k)
            is (c.halve_texel.ensures.each k channel)
      ];
    }
