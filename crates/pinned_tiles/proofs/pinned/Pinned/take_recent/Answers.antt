-- The last tile of the microcache is in hand then.
use Rattle.std.proofs.Common.{◌≡◌, ◌++◌, sym, ap, subst, ◌∙◌, map, Option, Some, None}
use Rattle.std.specs.Option.{option_map, option_to_list}
use Rattle.tile_store.specs.Tile.{CachedTile}
use Rattle.pinned_tiles.specs.Pinned.{PinnedState}
use Rattle.pinned_tiles.specs.Pinned.{ArePinned, pinned_tiles, tile_of_pin}
use Rattle.pinned_tiles.proofs.PinnedLemmas.{last_taken}
use Rattle.pinned_tiles.proofs.pinned.Pinned.take_recent.Goals as goal

pub invariant_of-self : goal.invariant_of-self
invariant_of-self g c =
    let last = Some c.into_pin.result.tile in
    let is : c.take_last.result ≡ last = c.in-Some.is ∙ ap Some (sym c.into_pin.ensures.value) in
    let none : option_map tile_of_pin c.self.inside.hand ≡ None =
    ap (λ (p : PinnedState). p.hand) c.self.view_is ∙ c.requires.hand in (
      last_taken g.W.World.files c.self.inside.cut
          c.self.inside.seat c.self.inside.recent c.take_last.new.self
          (map tile_of_pin c.self.inside.holds.items) last
          (subst (λ (h : Option CachedTile). ArePinned g.W.World.files (pinned_tiles c.self.inside.seat
          c.self.inside.cut c.self.inside.recent (map tile_of_pin c.self.inside.holds.items) h)
          ) none c.self.invariant.0)
          (subst (λ (o : Option CachedTile). c.take_last.new.self ++ option_to_list o
          ≡ c.self.inside.recent) is c.take_last.ensures.value),
      c.self.invariant.1,
    )

pub returns-in-Some-clause-are : goal.returns-in-Some-clause-are
returns-in-Some-clause-are g c = (invariant_of-self g c).0
