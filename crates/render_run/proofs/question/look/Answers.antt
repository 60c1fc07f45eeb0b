-- A lookup in a tile may be asked for as the lookup was.
use Rattle.std.proofs.Common.{subst, sym}
use Rattle.texture_sys.specs.Asked.{MayBeLookedUp}
use Rattle.render_run.proofs.Naming.{tile_may}
use Rattle.render_run.proofs.question.look.Goals as goal

pub in_tile-requires-clause-asked : goal.in_tile-requires-clause-asked
in_tile-requires-clause-asked g c =
    subst MayBeLookedUp (sym c.moved_to.ensures)
    (tile_may c.args.request.now c.in-Ok-Tile.field-0 c.in-Ok-Tile.name c.in-Ok-Tile.s
    c.in-Ok-Tile.t c.in-Ok-Tile.field-0-is c.in-Ok-Tile.ensures.within c.requires.asked)
