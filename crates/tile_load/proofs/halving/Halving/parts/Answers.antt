use Rattle.std.proofs.Common.{ap, ◌∙◌, arith}
use Rattle.tile_load.specs.Halving.{HalvingState, part_count}
use Rattle.tile_load.proofs.CellParts.{count_low, count_high}
use Rattle.tile_load.proofs.CellParts.{spans_count}
use Rattle.tile_load.proofs.halving.Halving.parts.Goals as goal

pub overflow_mul-result : goal.overflow_mul-result
overflow_mul-result g c =
    let a = c.self.inside in
    let is = c.self.invariant in
    omega (
      arith,
      spans_count a.layout.now a.cut a.key a.across a.down is.spans,
      count_high a.layout.now a.cut a.key is.cell,
    )

pub returns-clause-value : goal.returns-clause-value
returns-clause-value g c =
    let a = c.self.inside in
    spans_count a.layout.now a.cut a.key a.across a.down c.self.invariant.spans
    ∙ ap (λ (s : HalvingState). part_count s.layout s.cut s.key) c.self.view_is

pub returns-clause-in_range : goal.returns-clause-in_range
returns-clause-in_range g c =
    let a = c.self.inside in
    let is = c.self.invariant in
    let count = spans_count a.layout.now a.cut a.key a.across a.down is.spans in (
      omega (arith, count, count_low a.layout.now a.cut a.key is.cell),
      omega (arith, count, count_high a.layout.now a.cut a.key is.cell),
    )
