use Rattle.std.proofs.Common.{◌<◌, ◌∙◌, arith, ap, sym}
use Rattle.tiff_format.specs.Block.{Level}
use Rattle.tile_layout.proofs.LevelLemmas.{side_stored}
use Rattle.tiff_format.specs.Texel.{sample_place}
use Rattle.tile_layout.specs.Pieces.{Walk}
use Rattle.tile_layout.specs.Plane.{plane_level}
use Rattle.tile_layout.proofs.DirPlanes.{planes_same, some_planes, first_channel}
use Rattle.tile_layout.proofs.layout.Layout.pieces.Goals as goal

pub over-requires-clause-on : goal.over-requires-clause-on
over-requires-clause-on c =
    let file = c.args.self.now in
    record {
      across = omega (
        arith,
        c.requires.inside.across,
        side_stored (λ shape. shape.width) file c.args.level c.requires.stored,
        ap (λ (l : Level). l.shape.width) c.dir.ensures.value,
      );
      down = omega (
        arith,
        c.requires.inside.down,
        side_stored (λ shape. shape.height) file c.args.level c.requires.stored,
        ap (λ (l : Level). l.shape.height) c.dir.ensures.value,
      );
    }

pub over-requires-clause-plane : goal.over-requires-clause-plane
over-requires-clause-plane c =
    let is = c.dir.ensures.value in
    omega (
      arith,
      planes_same c.dir.result.now _ is,
      (some_planes c.dir.result.now _ is).0,
    )

pub returns-clause-place : goal.returns-clause-place
returns-clause-place c = λ x y.
    let is = c.dir.ensures.value in
    ap (λ (w : Walk). sample_place w.level x y 0) c.over.ensures
    ∙ ap (λ (l : Level). sample_place (plane_level l 0) x y 0) is
    ∙ first_channel c.dir.result.now _ is 0 x y
    (omega (arith, (some_planes c.dir.result.now _ is).0))
