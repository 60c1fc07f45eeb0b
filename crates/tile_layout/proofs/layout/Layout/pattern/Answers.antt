use Rattle.std.proofs.Common.{ap, arith}
use Rattle.tiff_format.specs.Block.{Level}
use Rattle.tile_layout.proofs.LevelLemmas.{side_stored}
use Rattle.tile_layout.proofs.layout.Layout.pattern.Goals as goal

pub returns-then-level-stored-clause-wide : goal.returns-then-level-stored-clause-wide
returns-then-level-stored-clause-wide c =
    omega (
      arith,
      side_stored (λ shape. shape.width) c.args.self.now c.args.level (omega arith),
      ap (λ (l : Level). l.shape.width) c.dir.ensures.value,
    )

pub returns-then-level-stored-clause-high : goal.returns-then-level-stored-clause-high
returns-then-level-stored-clause-high c =
    omega (
      arith,
      side_stored (λ shape. shape.height) c.args.self.now c.args.level (omega arith),
      ap (λ (l : Level). l.shape.height) c.dir.ensures.value,
    )
