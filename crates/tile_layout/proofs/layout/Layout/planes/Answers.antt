use Rattle.std.proofs.Common.{ap, sym, subst, refl}
use Rattle.tile_layout.proofs.DirPlanes.{planes_same, one_or_all, some_planes}
use Rattle.tile_layout.proofs.layout.Layout.planes.Goals as goal

pub returns-clause-one_or_all : goal.returns-clause-one_or_all
returns-clause-one_or_all c =
    rw (planes_same c.dir.result.now _ c.dir.ensures.value)
    (one_or_all c.dir.result.now _ c.dir.ensures.value)

pub returns-clause-in_range : goal.returns-clause-in_range
returns-clause-in_range c = some_planes c.dir.result.now _ refl
