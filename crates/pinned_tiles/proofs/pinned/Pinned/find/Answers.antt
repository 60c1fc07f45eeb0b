-- The tiles are the same in another order.
use Rattle.std.proofs.Common.{sym, subst, map, List}
use Rattle.std.specs.Option.{option_map}
use Rattle.tile_store.specs.Tile.{CachedTile}
use Rattle.pinned_tiles.specs.Pinned.{ArePinned, pinned_tiles, tile_of_pin}
use Rattle.pinned_tiles.proofs.PinnedLemmas.{asked_for}
use Rattle.pinned_tiles.proofs.TurnLemmas.{first_found_there}
use Rattle.pinned_tiles.proofs.pinned.Pinned.find.Goals as goal

pub invariant_of-self : goal.invariant_of-self
invariant_of-self g c = (
  subst (λ (recent : List CachedTile). ArePinned g.W.World.files (pinned_tiles c.self.inside.seat
      c.self.inside.cut recent (map tile_of_pin c.self.inside.holds.items)
      (option_map tile_of_pin c.self.inside.hand)))
      (sym c.find.ensures.moved)
      (asked_for g.W.World.files c.self.inside.cut
      c.self.inside.seat c.self.inside.recent (map tile_of_pin c.self.inside.holds.items)
      (option_map tile_of_pin c.self.inside.hand) c.args.key c.self.invariant.0),
  c.self.invariant.1,
)

pub returns-clause-are : goal.returns-clause-are
returns-clause-are g c = (invariant_of-self g c).0

pub returns-clause-first : goal.returns-clause-first
returns-clause-first g c = λ is.
    first_found_there c.args.key c.self.inside.recent c.find.new.self (c.find.ensures.value.0 is)
    c.find.ensures.moved
