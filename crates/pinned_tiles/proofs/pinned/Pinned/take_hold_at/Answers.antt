-- The hold at the place is in hand then.
use Rattle.std.proofs.Common.{◌≡◌, ℕ, ◌≤◌, ◌<◌, sym, ap, subst, ◌∙◌, map, List, Option, Some, None}
use Rattle.std.proofs.Common.{length, get_or}
use Rattle.std.specs.List.{remove}
use Rattle.std.specs.Option.{option_map}
use Rattle.std.proofs.Math.ListN.{get_or-map}
use Rattle.tile_store.specs.Tile.{CachedTile}
use Rattle.pinned_tiles.specs.Pinned.{PinnedState, ArePinned, pinned_tiles, tile_of_pin, max_holds}
use Rattle.pinned_tiles.proofs.PinnedLemmas.{hold_taken_at, map-remove}
use Rattle.pinned_tiles.proofs.pinned.Pinned.take_hold_at.Goals as goal

pub invariant_of-self : goal.invariant_of-self
invariant_of-self g c =
    let files = g.W.World.files in
    let i = c.args.place in
    let pins = c.self.inside.holds.items in
    let old = map tile_of_pin pins in
    let t = c.remove.result.tile in
    let none : option_map tile_of_pin c.self.inside.hand ≡ None =
    ap (λ (p : PinnedState). p.hand) c.self.view_is ∙ c.requires.hand in
    let items : map tile_of_pin c.remove.new.self.items ≡ remove old i =
    ap (map tile_of_pin) c.remove.ensures.items ∙ map-remove pins i in
    let place : i < length old =
    subst (λ (p : PinnedState). i < length p.holds) (sym c.self.view_is) c.requires.place in
    let is : t ≡ get_or old i t =
    ap tile_of_pin c.remove.ensures.value ∙ sym (get_or-map tile_of_pin pins i c.remove.result) in
    let before = subst (λ (h : Option CachedTile). ArePinned files (pinned_tiles c.self.inside.seat
    c.self.inside.cut c.self.inside.recent old h)) none c.self.invariant.0 in (
      subst (λ (l : List CachedTile). ArePinned files (pinned_tiles c.self.inside.seat
          c.self.inside.cut c.self.inside.recent l (Some t))) (sym items)
          (hold_taken_at files c.self.inside.cut c.self.inside.seat c.self.inside.recent old i t before
          place is),
      subst (λ (room : ℕ). max_holds ≤ room) (sym c.remove.ensures.capacity) c.self.invariant.1,
    )
