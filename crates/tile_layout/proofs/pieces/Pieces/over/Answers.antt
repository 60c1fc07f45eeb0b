use Rattle.std.proofs.Common.{refl, arith}
use Rattle.tile_layout.proofs.TexelLemmas.{rect_left, nothing_left}
use Rattle.tile_layout.proofs.pieces.Pieces.over.Goals as goal
use Rattle.tile_layout.proofs.pieces.Pieces.over.Goals.{then-rect-eq0, else-rect-eq0}

pub returns : goal.returns
returns c =
    let rect = c.args.rect in
    let rows = c.if-rect-eq0.rows in
    elim c.if-rect-eq0.branch [
      | then-rect-eq0 w ↦
          rw (nothing_left rect rows w.if-rect-eq0.true (omega arith)) refl
      | else-rect-eq0 w ↦ rw (rect_left rect rows (omega arith)) refl
    ]
