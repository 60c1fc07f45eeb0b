use Rattle.std.proofs.Common.{arith}
use Rattle.tiff_format.specs.Shown.{shown}
use Rattle.tile_layout.specs.Plane.{plane_level}
use Rattle.tile_layout.proofs.WalkLemmas.{goes_on, turns, progress}
use Rattle.tile_layout.proofs.pieces.PiecesIterator.next.Goals as goal

pub returns-then-self-right-clause-steps : goal.returns-then-self-right-clause-steps
returns-then-self-right-clause-steps c =
    let a = c.self.inside in
    let piece = c.piece_at-piece in
    rw (← c.self.view_is) (turns (plane_level (shown a.dir.now) a.plane) a.rect a.x a.y piece.result
    piece.ensures.start.0 piece.ensures.start.1 (omega arith) (omega arith) piece.ensures.lies
    c.if-self-right.true)

pub returns-then-self-right-clause-goes : goal.returns-then-self-right-clause-goes
returns-then-self-right-clause-goes c = progress _ _ _ (returns-then-self-right-clause-steps c)

pub returns-else-self-right-clause-steps : goal.returns-else-self-right-clause-steps
returns-else-self-right-clause-steps c =
    let a = c.self.inside in
    let piece = c.piece_at-piece in
    rw (← c.self.view_is) (goes_on (plane_level (shown a.dir.now) a.plane) a.rect a.x a.y piece.result
    piece.ensures.start.0 piece.ensures.start.1 (omega arith) (omega arith) piece.ensures.lies)

pub returns-else-self-right-clause-goes : goal.returns-else-self-right-clause-goes
returns-else-self-right-clause-goes c = progress _ _ _ (returns-else-self-right-clause-steps c)
