use Rattle.std.proofs.Common.{ap, arith}
use Rattle.std.proofs.lemmas.Grind.{common_steps}
use Rattle.tiff_format.specs.Block.{Level}
use Rattle.tiff_format.specs.Facts.{IsChain}
use Rattle.tile_layout.specs.Level.{side_in}
use Rattle.tile_layout.proofs.FirstLargest.{no_wider, no_higher}
use Rattle.tile_layout.proofs.layout.Layout.first.Goals as goal

pub returns-clause-value : goal.returns-clause-value
returns-clause-value c = grind (arith, common_steps)

pub returns-clause-largest : goal.returns-clause-largest
unfolding side_in
returns-clause-largest c = λ l.
    let file = c.args.self.now in
    let dir = c.index.result.now in
    let chain : IsChain file.levels = rw (← c.self.view_is) c.self.inside.dirs.chain in
    let value = returns-clause-value c in
    let width = ap (λ (l : Level). l.shape.width) value in
    let height = ap (λ (l : Level). l.shape.height) value in (
      omega (arith, no_wider file chain l, width, dir.shape_in.width.low),
      omega (arith, no_higher file chain l, height, dir.shape_in.height.low),
    )
