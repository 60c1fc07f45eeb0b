use Rattle.std.proofs.Common.{arith}
use Rattle.tile_layout.proofs.BlockLemmas.{piece_below}
use Rattle.tile_layout.proofs.FactorLemmas.{divides_exactly}
use Rattle.tile_layout.proofs.cut_side.CutSide.cell_of.Goals as goal

pub returns-clause-value : goal.returns-clause-value
returns-clause-value c =
    let side = c.args.self.now.in_range in
    rw (c.from.ensures, side.divides)
    (divides_exactly c.args.place c.args.self.now.cell side.piece.some side.piece.high
    (omega (arith, c.requires, side.side.high)))

pub returns-clause-in_range : goal.returns-clause-in_range
returns-clause-in_range c =
    let side = c.args.self.now.in_range in
    rw (returns-clause-value c, side.cover)
    (piece_below c.args.self.now.size c.args.self.now.cell c.args.place side.piece.some c.requires)
