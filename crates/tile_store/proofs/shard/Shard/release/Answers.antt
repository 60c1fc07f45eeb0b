use Rattle.std.proofs.Common.{◌≡◌, ◌+◌, ◌-◌, ◌<◌, ◌≤◌, ◌^◌, ◌∙◌, nat_eq, ap, sym, subst, arith}
use Rattle.std.specs.List.{IsDistinct}
use Rattle.std.specs.Map.{keys_of}
use Rattle.tile_store.specs.CachedTile.{entry_at, unpinned_at, HasPin, pin_sum, loose_bytes, pinned_entries}
use Rattle.tile_store.specs.Changes.{kept_within, unpinned_once}
use Rattle.tile_store.specs.Lawful.{Lawful}
use Rattle.tile_store.proofs.PinLemmas.{some_entry, pins-le}
use Rattle.tile_store.proofs.ShardLemmas.{loose_fits, shard_unpinned, shard_within}
use Rattle.tile_store.proofs.StayLemmas.{stay-kept_within}
use Rattle.tile_store.proofs.LawfulLemmas.{lawful_released}
use Rattle.tile_store.proofs.shard.Shard.release.Goals as goal

-- the numbers of the shard once the pin is gone
pub overflow_add-loose : goal.overflow_add-loose
overflow_add-loose g c =
    let same = (ap (λ o. o.entries) c.self.view_is) in
    let is = c.self.invariant in
    let pinned = subst (HasPin c.args.key) (sym same) c.requires in
    let at = some_entry (entry_at c.args.key c.self.inside.order.entries) (λ e. 1 ≤ e.pins) pinned in
    let mid = shard_unpinned c.self.inside.order.entries c.self.inside.marks c.self.inside.pins c.self.inside.loose is c.unpin.new.self.entries
    c.args.key at.0 at.1 at.2 c.unpin.ensures.entries in
    let bytes : c.unpin.result ≡ unpinned_at c.args.key c.unpin.new.self.entries = c.unpin.ensures.bytes in
    let small : c.self.inside.loose + unpinned_at c.args.key c.unpin.new.self.entries < 2 ^ 57 =
    loose_fits c.unpin.new.self.entries _ _ _ mid in
    omega arith

pub overflow_sub-self : goal.overflow_sub-self
overflow_sub-self g c =
    let same = (ap (λ o. o.entries) c.self.view_is) in
    let is = c.self.invariant in
    let pinned = subst (HasPin c.args.key) (sym same) c.requires in
    let at = some_entry (entry_at c.args.key c.self.inside.order.entries) (λ e. 1 ≤ e.pins) pinned in
    let some : 1 ≤ at.0.pins = at.2 in
    let sum : c.self.inside.pins ≡ pin_sum c.self.inside.order.entries = is.pins_is in
    let le = pins-le c.args.key c.self.inside.order.entries at.0 at.1 in
    omega arith

pub evict_past-self-inside-requires : goal.evict_past-self-inside-requires
evict_past-self-inside-requires g c =
    let same = (ap (λ o. o.entries) c.self.view_is) in
    let is = c.self.invariant in
    let pinned = subst (HasPin c.args.key) (sym same) c.requires in
    let at = some_entry (entry_at c.args.key c.self.inside.order.entries) (λ e. 1 ≤ e.pins) pinned in
    let mid = shard_unpinned c.self.inside.order.entries c.self.inside.marks c.self.inside.pins c.self.inside.loose is c.unpin.new.self.entries
    c.args.key at.0 at.1 at.2 c.unpin.ensures.entries in
    ap (λ n. c.self.inside.loose + n) c.unpin.ensures.bytes ∙ mid.loose_is

pub invariant_of-self : goal.invariant_of-self
invariant_of-self g c =
    let same = (ap (λ o. o.entries) c.self.view_is) in
    let is = c.self.invariant in
    let pinned = subst (HasPin c.args.key) (sym same) c.requires in
    let at = some_entry (entry_at c.args.key c.self.inside.order.entries) (λ e. 1 ≤ e.pins) pinned in
    let mid = shard_unpinned c.self.inside.order.entries c.self.inside.marks c.self.inside.pins c.self.inside.loose is c.unpin.new.self.entries
    c.args.key at.0 at.1 at.2 c.unpin.ensures.entries in
    shard_within c.unpin.new.self.entries c.self.inside.marks (c.self.inside.pins - 1)
    (c.self.inside.loose + unpinned_at c.args.key c.unpin.new.self.entries) mid
    c.evict_past-self-inside.new.order.entries c.args.share
    c.evict_past-self-inside.result c.evict_past-self-inside.ensures.entries
    c.evict_past-self-inside.ensures.loose

pub returns-clause-pinned : goal.returns-clause-pinned
returns-clause-pinned g c =
    let same = (ap (λ o. o.entries) c.self.view_is) in
    ap pinned_entries c.evict_past-self-inside.ensures.entries
    ∙ stay-kept_within c.args.share c.unpin.new.self.entries
    ∙ ap pinned_entries (c.unpin.ensures.entries ∙ ap (unpinned_once c.args.key) same)

pub returns-clause-lawful : goal.returns-clause-lawful
returns-clause-lawful g c = λ tag share_is old.
    let files = g.W.World.files in
    let es = c.self.inside.order.entries in
    let same = (ap (λ o. o.entries) c.self.view_is) in
    let was : Lawful files tag es = subst (Lawful files tag) (sym same) old in
    let pinned = subst (HasPin c.args.key) (sym same) c.requires in
    let left = c.evict_past-self-inside.ensures in
    let to : c.evict_past-self-inside.new.order.entries ≡ kept_within c.args.share (unpinned_once c.args.key es) =
    left.entries ∙ ap (kept_within c.args.share) c.unpin.ensures.entries in
    let distinct = subst (λ l. IsDistinct nat_eq (keys_of l)) to c.len.ensures.valid in
    let within : loose_bytes c.evict_past-self-inside.new.order.entries ≤ c.args.share =
    subst (λ n. n ≤ c.args.share) left.loose left.within in
    subst (Lawful files tag) (sym to) (lawful_released files tag es was c.args.key c.args.share share_is
    pinned distinct (subst (λ l. loose_bytes l ≤ c.args.share) to within))
