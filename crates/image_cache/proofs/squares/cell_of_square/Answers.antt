-- The rectangle of a cell holds the texels whose cell it is.
use Rattle.std.proofs.Common.{refl}
use Rattle.image_cache.proofs.SquareLemmas.{one_from_held, held_from_one}
use Rattle.image_cache.proofs.squares.cell_of_square.Goals as goal

pub returns-then-holds-clause-holds : goal.returns-then-holds-clause-holds
returns-then-holds-clause-holds g c = record {
  left_top = c.cell_at-cell.ensures.holds;
  right_bottom = c.holds.ensures.0 c.if-holds.true;
}

pub returns-then-holds-clause-one : goal.returns-then-holds-clause-one
returns-then-holds-clause-one g c = (
  λ _. one_from_held c.args.picture.now c.args.square.now c.cell_at-cell.result
      c.level.result.now.grid c.level.ensures.grid c.cell_at-cell.ensures.is
      c.cell_at-cell.ensures.holds (c.holds.ensures.0 c.if-holds.true),
  λ _. refl,
)

pub returns-else-holds-clause-one : goal.returns-else-holds-clause-one
returns-else-holds-clause-one g c = (
  λ is. absurd cc,
  λ one.
      let held = c.holds.ensures.1 (held_from_one c.args.picture.now c.args.square.now
      c.cell_at-cell.result c.level.result.now.grid c.level.ensures.grid
      c.cell_at-cell.ensures.is c.requires.inside.last one) in
      absurd (cc (held, c.if-holds.false)),
)
