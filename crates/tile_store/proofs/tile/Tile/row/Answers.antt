use Rattle.std.proofs.Common.{subst}
use Rattle.tile_store.specs.Tile.{IsTile}
use Rattle.tile_store.specs.Told.{IsTold}
use Rattle.tile_store.proofs.TileLemmas.{told_samples, part_ends, part_samples}
use Rattle.tile_store.proofs.tile.Tile.row.Goals as goal

pub part-requires : goal.part-requires
part-requires g c =
    rw c.all-samples.ensures
    (part_ends _ c.args.self.now c.self.view_is (subst IsTile c.self.view_is c.self.invariant.shape)
    c.args.x c.args.y c.args.n _ c.place-from.ensures.value c.requires)

pub returns-clause-value : goal.returns-clause-value
returns-clause-value g c =
    part_samples _ c.args.self.now c.self.view_is (subst IsTile c.self.view_is c.self.invariant.shape)
    c.args.x c.args.y c.args.n _ c.place-from.ensures.value c.requires _
    (rw c.all-samples.ensures at c.part.ensures)

pub returns-clause-told : goal.returns-clause-told
returns-clause-told g c =
    let told : IsTold g.W.World.files c.args.self.now =
    subst (IsTold g.W.World.files) c.self.view_is c.self.invariant.told in
    let is : IsTile c.args.self.now = subst IsTile c.self.view_is c.self.invariant.shape in
    told_samples g.W.World.files c.args.self.now is told c.args.x c.args.y c.args.n _ c.requires
    (returns-clause-value g c)
