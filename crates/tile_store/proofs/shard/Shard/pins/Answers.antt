use Rattle.std.proofs.Common.{◌≡◌, ◌≤◌, ap, subst}
use Rattle.tile_store.specs.CachedTile.{pin_sum, pinned_count}
use Rattle.tile_store.proofs.ShardLemmas.{pinned_count-le}
use Rattle.tile_store.proofs.shard.Shard.pins.Goals as goal

pub returns-clause-pinned : goal.returns-clause-pinned
returns-clause-pinned g c =
    let are : c.self.inside.pins ≡ pin_sum c.self.inside.order.entries = c.self.invariant.pins_is in
    let le : pinned_count c.self.inside.order.entries ≤ c.self.inside.pins =
    rw are (pinned_count-le c.self.inside.order.entries) in
    subst (λ es. pinned_count es ≤ c.self.inside.pins) (ap (λ o. o.entries) c.self.view_is) le
