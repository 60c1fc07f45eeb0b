use Rattle.std.proofs.Common.{arith, ap}
use Rattle.tiff_format.specs.Block.{Level}
use Rattle.tile_layout.proofs.LevelLemmas.{side_stored}
use Rattle.tile_layout.proofs.DirPlanes.{planes_same}
use Rattle.tile_layout.proofs.layout.Layout.whole_rows.Goals as goal

pub whole_rows-requires-clause-on : goal.whole_rows-requires-clause-on
whole_rows-requires-clause-on c =
    let file = c.args.self.now in
    record {
      across = omega (
        arith,
        c.requires.inside.across,
        side_stored (λ shape. shape.width) file c.args.level c.requires.stored,
        ap (λ (l : Level). l.shape.width) c.dir.ensures.value,
      );
      down = omega (
        arith,
        c.requires.inside.down,
        side_stored (λ shape. shape.height) file c.args.level c.requires.stored,
        ap (λ (l : Level). l.shape.height) c.dir.ensures.value,
      );
    }

pub whole_rows-requires-clause-plane : goal.whole_rows-requires-clause-plane
whole_rows-requires-clause-plane c =
    let same = planes_same c.dir.result.now _ c.dir.ensures.value in
    omega (arith, same, c.requires.plane)
