-- The second tile of the microcache is in hand then.
use Rattle.std.proofs.Common.{◌≡◌, ◌∷◌, ◌++◌, sym, ap, subst, ◌∙◌, map, Option, Some}
use Rattle.std.specs.Option.{option_to_list}
use Rattle.tile_store.specs.Tile.{CachedTile}
use Rattle.shard_gate.specs.Gate.{PinState}
use Rattle.pinned_tiles.specs.Pinned.{ArePinned, pinned_state, tile_of_pin}
use Rattle.pinned_tiles.proofs.PinnedLemmas.{moved_in}
use Rattle.pinned_tiles.proofs.pinned.Pinned.move_in.Goals as goal

pub invariant_of-self-in-Some-place-2 : goal.invariant_of-self-in-Some-place-2
invariant_of-self-in-Some-place-2 g c =
    let left = Some c.into_pin.result.tile in
    let before = subst (λ (h : Option PinState). ArePinned g.W.World.files
    (pinned_state c.self.inside.seat c.self.inside.cut c.self.inside.recent
    c.self.inside.holds.items h))
    (sym c.take.ensures.value ∙ c.in-Some.is) c.self.invariant.0 in
    let is : c.place.result ≡ left = c.in-Some-place.is ∙ ap Some (sym c.into_pin.ensures.value) in (
      moved_in g.W.World.files c.self.inside.cut
          c.self.inside.seat c.self.inside.recent c.place.new.self
          (map tile_of_pin c.self.inside.holds.items) c.in-Some.pin.tile left before
          (subst (λ (o : Option CachedTile). c.place.new.self ++ option_to_list o
          ≡ c.in-Some.pin.tile ∷ c.self.inside.recent) is c.place.ensures.kept)
          c.place.ensures.placed,
      c.self.invariant.1,
    )
