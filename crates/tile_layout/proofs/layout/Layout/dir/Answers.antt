use Rattle.std.proofs.Common.{ap, arith, ◌∙◌}
use Rattle.std.proofs.lemmas.Grind.{common_steps}
use Rattle.tiff_format.specs.Block.{Level}
use Rattle.tiff_format.specs.Facts.{IsChain}
use Rattle.tile_layout.proofs.LevelLemmas.{depth_stored}
use Rattle.tile_layout.proofs.layout.Layout.dir.Goals as goal

pub returns-clause-value : goal.returns-clause-value
returns-clause-value c = grind (arith, common_steps)

pub returns-clause-depth : goal.returns-clause-depth
returns-clause-depth c =
    let file = c.args.self.now in
    let chain : IsChain file.levels = rw (← c.self.view_is) c.self.inside.dirs.chain in
    ap (λ (l : Level). l.shape.depth) (returns-clause-value c)
    ∙ depth_stored file chain c.args.level c.requires
