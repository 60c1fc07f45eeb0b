use Rattle.std.proofs.Common.{ℕ, arith, ap, rules}
use Rattle.tile_layout.proofs.GridLemmas.{grid_halves}
use Rattle.tile_layout.proofs.layout.Layout.grid.Goals as goal

pub new-requires-2-clause-piece : goal.new-requires-2-clause-piece
new-requires-2-clause-piece c =
    let height = ap (λ (size : ℕ × ℕ). size.1) c.size-width.ensures.value in
    c.cell_sides-cell_width.ensures.down c.size-width.result.1
    (omega (arith, height, c.pattern.ensures.high))

pub returns-clause-halving : goal.returns-clause-halving
returns-clause-halving c =
    grid_halves (record { across = c.new.result; down = c.new-2.result }) _ (search rules)
