use Rattle.std.proofs.Common.{◌≡◌, ◌∙◌, nat_eq, ap, sym, subst, arith}
use Rattle.std.specs.List.{IsDistinct}
use Rattle.std.specs.Map.{keys_of}
use Rattle.tile_store.specs.CachedTile.{loose_bytes, IsEntry}
use Rattle.tile_store.specs.Inside.{CanPin}
use Rattle.tile_store.specs.Lawful.{Lawful}
use Rattle.tile_store.proofs.PinLemmas.{can_pin, All-found}
use Rattle.tile_store.proofs.ShardLemmas.{unpinned_at-le, shard_pinned}
use Rattle.tile_store.proofs.LawfulLemmas.{lawful_pinned}
use Rattle.tile_store.proofs.shard.Shard.find_pin.Goals as goal

pub pin-requires : goal.pin-requires
pin-requires g c =
    subst (CanPin c.args.key) (sym (ap (λ o. o.entries) c.self.view_is)) (can_pin c.args.key c.args.self.now.entries c.requires)

pub overflow_sub-self : goal.overflow_sub-self
overflow_sub-self g c =
    let loose : c.self.inside.loose ≡ loose_bytes c.self.inside.order.entries = c.self.invariant.loose_is in
    omega (arith, c.pin.ensures.bytes, unpinned_at-le c.args.key c.self.inside.order.entries)

pub invariant_of-self : goal.invariant_of-self
invariant_of-self g c =
    rw c.pin.ensures.bytes (shard_pinned c.self.inside.order.entries c.self.inside.marks c.self.inside.pins c.self.inside.loose
    c.self.invariant c.pin.new.self.entries c.args.key c.in-Some.entry.now (sym c.in-Some.ensures)
    c.pin.ensures.entries)

pub returns-clause-keyed : goal.returns-clause-keyed
returns-clause-keyed g c =
    let found = All-found c.args.key c.self.inside.order.entries c.in-Some.entry.now (sym c.in-Some.ensures) IsEntry
    c.self.invariant.keyed in
    ap (λ t. t.key) c.in_ok-tile.ensures ∙ found.key

pub returns-clause-lawful : goal.returns-clause-lawful
returns-clause-lawful g c = λ tag old.
    let files = g.W.World.files in
    let es = c.self.inside.order.entries in
    let was : Lawful files tag es = subst (Lawful files tag) (sym (ap (λ o. o.entries) c.self.view_is)) old in
    let distinct = subst (λ l. IsDistinct nat_eq (keys_of l)) c.pin.ensures.entries c.len.ensures.valid in
    subst (Lawful files tag) (sym c.pin.ensures.entries)
    (lawful_pinned files tag es was c.args.key c.in-Some.entry.now (sym c.in-Some.ensures) distinct)
