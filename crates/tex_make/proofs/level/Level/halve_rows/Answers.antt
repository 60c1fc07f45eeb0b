use Rattle.std.proofs.Common.{◌≡◌, ℕ, ◌+◌, ◌*◌, ◌<◌, ◌∙◌, subst, ap, arith, inl, inr, slice_index}
use Rattle.std.proofs.lemmas.Bool.{cases_lt}
use Rattle.std.proofs.lemmas.Nat.{mul-add-lt}
use Rattle.tiff_format.specs.Level.{halved}
use Rattle.tex_make.specs.Level.{shown}
use Rattle.tex_make.specs.HalfRows.{half_sample}
use Rattle.tex_make.proofs.level.Level.halve_rows.Goals as goal

pub loop-y-preserved : goal.loop-y-preserved
loop-y-preserved c = λ x y k across down channel.
    let level = c.args.self.now in
    let w = halved level.width in
    let n = level.channels in
    let done = c.loop-y.y in
    let out = c.halve_row_at.new.out in
    let at : (y * w + x) * n + k ≡ y * (w * n) + (x * n + k) = omega arith in
    elim (cases_lt y done) [
      | inl before ↦
          let low : x * n + k < w * n = omega (arith, mul-add-lt x n k w across channel) in
          let row = mul-add-lt y (w * n) (x * n + k) done before low in
          c.halve_row_at.ensures.before ((y * w + x) * n + k) (omega (arith, row, at))
          ∙ c.loop-y.invariant x y k across before channel
      | inr behind ↦
          let is : done ≡ y = omega arith in
          ap (slice_index out) at
          ∙ subst (λ (y : ℕ). slice_index out (y * (w * n) + (x * n + k))
          ≡ half_sample (shown level) x y k) is (c.halve_row_at.ensures.row x k across channel)
    ]
