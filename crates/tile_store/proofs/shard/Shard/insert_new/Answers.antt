use Rattle.std.proofs.Common.{Some, length, ◌^◌, arith, ◌≡◌, ◌+◌, ◌-◌, ◌<◌, ◌∷◌, ◌∙◌, nat_eq, ap, sym, subst}
use Rattle.std.specs.List.{IsDistinct}
use Rattle.std.specs.Map.{keys_of}
use Rattle.tile_store.specs.CachedTile.{entry_at, loose_bytes, pinned_count, pinned_entries}
use Rattle.tile_store.specs.Changes.{new_entry, with_first, with_room}
use Rattle.tile_store.specs.Lawful.{Lawful}
use Rattle.tile_store.proofs.ShardLemmas.{shard_inserted, inserted-new, absent_with_room}
use Rattle.tile_store.proofs.StayLemmas.{stay-inserted}
use Rattle.tile_store.proofs.LawfulLemmas.{lawful_inserted}
use Rattle.std.proofs.lemmas.List.{length-set}
use Rattle.tile_layout.specs.Key.{file_of}
use Rattle.tile_store.specs.Marks.{marked}
use Rattle.tile_store.specs.Inside.{IsShard}
use Rattle.tile_store.specs.Slots.{FillsSlot}
use Rattle.tile_store.proofs.LeftLemmas.{fills}
use Rattle.tile_store.proofs.shard.Shard.insert_new.Goals as goal

pub put-requires-clause-absent : goal.put-requires-clause-absent
put-requires-clause-absent g c =
    let tile = c.args.tile in
    let es = c.self.inside.order.entries in
    let n = length c.self.inside.order.slots in
    let entry : c.pinned-entry.result ≡ new_entry tile =
    c.pinned-entry.ensures ∙ ap new_entry (c.in_ok-another.ensures ∙ c.in_ok-kept.ensures) in
    ap (λ e. entry_at e.tile.key c.make_room.new.order.entries) entry
    ∙ ap (entry_at tile.key) c.make_room.ensures.entries
    ∙ absent_with_room tile.key n es (ap (entry_at tile.key) (ap (λ o. o.entries) c.self.view_is) ∙ c.requires.absent)

pub invariant_of-self : goal.invariant_of-self
invariant_of-self g c =
    let tile = c.args.tile in
    let es = c.self.inside.order.entries in
    let n = length c.self.inside.order.slots in
    let entry : c.pinned-entry.result ≡ new_entry tile =
    c.pinned-entry.ensures ∙ ap new_entry (c.in_ok-another.ensures ∙ c.in_ok-kept.ensures) in
    let to : c.put.new.self.entries ≡ with_first tile (with_room n es) =
    c.put.ensures.entries ∙ ap (λ e. (e.tile.key, e) ∷ c.make_room.new.order.entries) entry
    ∙ ap (with_first tile) c.make_room.ensures.entries in
    let room : pinned_count es < n =
    subst (λ o. pinned_count o.entries < length o.slots) (sym c.self.view_is) c.requires.room in
    let made : FillsSlot c.pinned-entry.result.tile.key c.self.inside.order c.put.new.self =
    fills c.pinned-entry.result.tile.key c.put.result c.self.inside.order c.make_room.new.order c.put.new.self
    c.make_room.ensures.slots (ap (λ o. o.left) c.self.view_is ∙ c.requires.left) c.put.ensures.slots
    c.put.ensures.last c.put.ensures.left in
    let size = ap length made.slots ∙ length-set c.self.inside.order.slots made.slot (Some c.pinned-entry.result.tile.key) in
    let last = c.len.ensures.few in
    let few : n < 2 ^ 32 = omega arith in
    let marks = c.self.inside.marks in
    let known : file_of tile.key < length marks = subst (λ k. file_of k < length marks) c.key-key.ensures.value c.mark.ensures.in_range in
    let now : c.mark.new.self ≡ marked (file_of tile.key) marks =
    c.mark.ensures.marks ∙ ap (λ k. marked (file_of k) marks) c.key-key.ensures.value in
    let is = shard_inserted es marks c.self.inside.pins c.self.inside.loose c.self.invariant c.put.new.self.entries tile
    n c.make_room.result c.key-key.ensures.tile.bytes known room few to
    (ap (λ l. loose_bytes l + c.make_room.result) (sym c.make_room.ensures.entries)
    ∙ c.make_room.ensures.bytes) in
    subst (λ m. IsShard c.put.new.self.entries m (c.self.inside.pins + 1) (c.self.inside.loose - c.make_room.result)) (sym now) is

pub returns-clause-entries : goal.returns-clause-entries
returns-clause-entries g c =
    let tile = c.args.tile in
    let es = c.self.inside.order.entries in
    let n = length c.self.inside.order.slots in
    let entry : c.pinned-entry.result ≡ new_entry tile =
    c.pinned-entry.ensures ∙ ap new_entry (c.in_ok-another.ensures ∙ c.in_ok-kept.ensures) in
    let to : c.put.new.self.entries ≡ with_first tile (with_room n es) =
    c.put.ensures.entries ∙ ap (λ e. (e.tile.key, e) ∷ c.make_room.new.order.entries) entry
    ∙ ap (with_first tile) c.make_room.ensures.entries in
    to ∙ ap (λ o. with_first tile (with_room (length o.slots) o.entries)) c.self.view_is
    ∙ sym (inserted-new tile (length c.args.self.now.slots) c.args.self.now.entries c.requires.absent)

pub returns-clause-pinned : goal.returns-clause-pinned
returns-clause-pinned g c = ap pinned_entries (returns-clause-entries g c)
    ∙ stay-inserted c.args.tile (length c.args.self.now.slots) c.args.self.now.entries

pub returns-clause-lawful : goal.returns-clause-lawful
returns-clause-lawful g c = λ tag fits old.
    let files = g.W.World.files in
    let tile = c.args.tile in
    let es = c.self.inside.order.entries in
    let n = length c.self.inside.order.slots in
    let entry : c.pinned-entry.result ≡ new_entry tile =
    c.pinned-entry.ensures ∙ ap new_entry (c.in_ok-another.ensures ∙ c.in_ok-kept.ensures) in
    let to : c.put.new.self.entries ≡ with_first tile (with_room n es) =
    c.put.ensures.entries ∙ ap (λ e. (e.tile.key, e) ∷ c.make_room.new.order.entries) entry
    ∙ ap (with_first tile) c.make_room.ensures.entries in
    let was : Lawful files tag es = subst (Lawful files tag) (sym (ap (λ o. o.entries) c.self.view_is)) old in
    let distinct = subst (λ l. IsDistinct nat_eq (keys_of l)) to c.len.ensures.valid in
    subst (Lawful files tag) (sym to) (lawful_inserted files tag es was tile n fits distinct)

pub returns-clause-slots : goal.returns-clause-slots
returns-clause-slots g c =
    let tile = c.args.tile in
    let entry : c.pinned-entry.result ≡ new_entry tile =
    c.pinned-entry.ensures ∙ ap new_entry (c.in_ok-another.ensures ∙ c.in_ok-kept.ensures) in
    let made : FillsSlot c.pinned-entry.result.tile.key c.self.inside.order c.put.new.self =
    fills c.pinned-entry.result.tile.key c.put.result c.self.inside.order c.make_room.new.order c.put.new.self
    c.make_room.ensures.slots (ap (λ o. o.left) c.self.view_is ∙ c.requires.left) c.put.ensures.slots
    c.put.ensures.last c.put.ensures.left in
    subst (λ o. FillsSlot tile.key o c.put.new.self) c.self.view_is
    (subst (λ e. FillsSlot e.tile.key c.self.inside.order c.put.new.self) entry made)
