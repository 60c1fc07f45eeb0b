use Rattle.std.proofs.Common.{◌∙◌, ◌-◌, nat_eq, ap, sym, subst}
use Rattle.std.specs.List.{IsDistinct}
use Rattle.std.specs.Map.{keys_of}
use Rattle.tile_store.specs.CachedTile.{pinned_entries}
use Rattle.tile_store.specs.Inside.{IsShard}
use Rattle.tile_store.specs.Lawful.{Lawful}
use Rattle.tile_store.proofs.ShardLemmas.{shard_purged}
use Rattle.tile_store.proofs.StayLemmas.{stay-without_stale}
use Rattle.tile_store.proofs.LawfulLemmas.{lawful_purged}
use Rattle.tile_store.proofs.shard.Shard.purge_marked.Goals as goal

pub invariant_of-self : goal.invariant_of-self
invariant_of-self g c =
    let is = c.self.invariant in
    let marks = c.self.inside.marks in
    let left = c.purge.new.order.entries in
    let pins = c.self.inside.pins in
    let loose = c.self.inside.loose - c.purge.result in
    let stays = c.has_file-stays.result in
    subst (λ m. IsShard left m pins loose) (sym c.keep.ensures)
    (shard_purged c.self.inside.order.entries marks pins c.self.inside.loose is left c.args.file c.args.below
    c.purge.result stays c.purge.ensures.entries c.purge.ensures.bytes c.has_file-stays.ensures)

pub returns-clause-pinned : goal.returns-clause-pinned
returns-clause-pinned g c = ap pinned_entries c.purge.ensures.entries
    ∙ stay-without_stale c.args.file c.args.below c.self.inside.order.entries
    ∙ ap pinned_entries (ap (λ o. o.entries) c.self.view_is)

pub returns-clause-lawful : goal.returns-clause-lawful
returns-clause-lawful g c = λ tag old.
    let files = g.W.World.files in
    let es = c.self.inside.order.entries in
    let same = (ap (λ o. o.entries) c.self.view_is) in
    let was : Lawful files tag es = subst (Lawful files tag) (sym same) old in
    let distinct = subst (λ l. IsDistinct nat_eq (keys_of l)) c.purge.ensures.entries c.len.ensures.valid in
    subst (Lawful files tag) (sym c.purge.ensures.entries)
    (lawful_purged files tag es was c.args.file c.args.below distinct)
