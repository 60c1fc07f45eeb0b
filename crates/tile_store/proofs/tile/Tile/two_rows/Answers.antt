use Rattle.std.proofs.Common.{subst}
use Rattle.tile_store.specs.Tile.{IsTile}
use Rattle.tile_store.specs.Told.{IsTold}
use Rattle.tile_store.proofs.TileLemmas.{told_samples, part_ends, part_samples}
use Rattle.tile_store.proofs.tile.Tile.two_rows.Goals as goal

pub two_parts-requires-clause-top : goal.two_parts-requires-clause-top
two_parts-requires-clause-top g c =
    part_ends _ c.args.self.now c.self.view_is (subst IsTile c.self.view_is c.self.invariant.shape)
    c.args.x c.args.top c.args.n _ c.place-top.ensures.value c.requires.top

pub two_parts-requires-clause-bottom : goal.two_parts-requires-clause-bottom
two_parts-requires-clause-bottom g c =
    part_ends _ c.args.self.now c.self.view_is (subst IsTile c.self.view_is c.self.invariant.shape)
    c.args.x c.args.bottom c.args.n _ c.place-bottom.ensures.value c.requires.bottom

pub returns-clause-top : goal.returns-clause-top
returns-clause-top g c =
    part_samples _ c.args.self.now c.self.view_is (subst IsTile c.self.view_is c.self.invariant.shape)
    c.args.x c.args.top c.args.n _ c.place-top.ensures.value c.requires.top _
    c.two_parts.ensures.top

pub returns-clause-bottom : goal.returns-clause-bottom
returns-clause-bottom g c =
    part_samples _ c.args.self.now c.self.view_is (subst IsTile c.self.view_is c.self.invariant.shape)
    c.args.x c.args.bottom c.args.n _ c.place-bottom.ensures.value c.requires.bottom _
    c.two_parts.ensures.bottom

pub returns-clause-told : goal.returns-clause-told
returns-clause-told g c =
    let tile = c.args.self.now in
    let told : IsTold g.W.World.files tile =
    subst (IsTold g.W.World.files) c.self.view_is c.self.invariant.told in
    let is : IsTile tile = subst IsTile c.self.view_is c.self.invariant.shape in (
      told_samples g.W.World.files tile is told c.args.x c.args.top c.args.n _ c.requires.top
          (returns-clause-top g c),
      told_samples g.W.World.files tile is told c.args.x c.args.bottom c.args.n _ c.requires.bottom
          (returns-clause-bottom g c),
    )
