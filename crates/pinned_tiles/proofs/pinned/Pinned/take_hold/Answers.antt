-- The latest hold is in hand then.
use Rattle.std.proofs.Common.{◌≡◌, ℕ, ◌≤◌, ◌++◌, sym, ap, subst, ◌∙◌, map, Option, Some, None}
use Rattle.std.specs.Option.{option_map, option_to_list}
use Rattle.std.proofs.lemmas.List.{map-append}
use Rattle.tile_store.specs.Tile.{CachedTile}
use Rattle.shard_gate.specs.Gate.{PinState}
use Rattle.pinned_tiles.specs.Pinned.{PinnedState}
use Rattle.pinned_tiles.specs.Pinned.{max_holds, ArePinned, pinned_tiles, tile_of_pin}
use Rattle.pinned_tiles.proofs.PinnedLemmas.{hold_taken}
use Rattle.pinned_tiles.proofs.pinned.Pinned.take_hold.Goals as goal

pub invariant_of-self : goal.invariant_of-self
invariant_of-self g c =
    let old = map tile_of_pin c.self.inside.holds.items in
    let new = map tile_of_pin c.pop.new.self.items in
    let none : option_map tile_of_pin c.self.inside.hand ≡ None =
    ap (λ (p : PinnedState). p.hand) c.self.view_is ∙ c.requires.hand in
    let items : old ≡ new ++ option_to_list (Some c.in-Some.hold.tile) =
    ap (map tile_of_pin) (c.pop.ensures.items
    ∙ ap (λ (o : Option PinState). c.pop.new.self.items ++ option_to_list o) c.in-Some.is)
    ∙ map-append tile_of_pin c.pop.new.self.items (option_to_list (Some c.in-Some.hold)) in (
      hold_taken g.W.World.files c.self.inside.cut c.self.inside.seat c.self.inside.recent old new
          (Some c.in-Some.hold.tile)
          (subst (λ (h : Option CachedTile). ArePinned g.W.World.files (pinned_tiles c.self.inside.seat
          c.self.inside.cut c.self.inside.recent old h)) none c.self.invariant.0) (sym items),
      subst (λ (room : ℕ). max_holds ≤ room) (sym c.pop.ensures.capacity) c.self.invariant.1,
    )

pub returns-in-Some-clause-are : goal.returns-in-Some-clause-are
returns-in-Some-clause-are g c = (invariant_of-self g c).0
