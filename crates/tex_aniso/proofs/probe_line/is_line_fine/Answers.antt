use Rattle.std.proofs.Common.{◌≡◌, ◌-◌, ◌∙◌, refl, to_z, of_z, w64, arith}
use Rattle.std.proofs.lemmas.Int.{to_z-of_z}
use Rattle.tex_aniso.proofs.AxisLemmas.{wide_read}
use Rattle.tex_aniso.proofs.probe_line.is_line_fine.Goals as goal

pub returns-then-is_fine : goal.returns-then-is_fine
returns-then-is_fine c =
    let first : to_z w64 (of_z w64 c.args.first) ≡ c.args.first = grind (arith, to_z-of_z) in
    let step : to_z w64 (of_z w64 c.args.step) ≡ c.args.step = grind (arith, to_z-of_z) in
    let last = wide_read c.args.first c.args.step (c.args.count - 1) c.ranges.first c.ranges.step
    (omega arith) in
    let wide = rw (
      c.from.ensures ∙ first,
      c.from-then-is_fine.ensures,
      c.from-then-is_fine-2.ensures ∙ step,
      last,
    ) at c.is_fine_wide.ensures in (
      λ yes. (rw first at (c.if-is_fine.ensures.0 refl), wide.0 yes),
      λ is. wide.1 is.1,
    )
