use Rattle.std.proofs.Common.{◌∷◌, nat_eq, ap, sym, subst, ◌∙◌}
use Rattle.std.specs.Map.{remove_entry}
use Rattle.std.specs.Option.{option_map_or}
use Rattle.std.specs.Vec.{vec_capacity}
use Rattle.tile_store.specs.CachedTile.{entry_at}
use Rattle.tile_store.specs.Leaving.{promoted}
use Rattle.tile_store.specs.Order.{entries_of, IsOrder}
use Rattle.tile_store.proofs.MapLemmas.{lookup_entry-none}
use Rattle.tile_store.proofs.OrderLemmas.{entry_by_none}
use Rattle.tile_store.proofs.SlotLemmas.{to_front, first_promoted}
use Rattle.tile_store.proofs.order.Order.promote.Goals as goal

pub to_front-requires : goal.to_front-requires
to_front-requires g c =
    c.self.invariant.order.indexed c.args.key c.in-Some.slot (sym c.in-Some.ensures.value)

pub invariant_of-self : goal.invariant_of-self
invariant_of-self g c =
    let s = c.self.inside in
    record {
      order = subst (λ l. IsOrder s.slots.items s.free.items (vec_capacity s.free) s.keys l) (sym c.to_front.ensures)
          (to_front s.slots.items s.free.items _ s.keys s.links c.self.invariant.order c.in-Some.slot
          (c.self.invariant.order.indexed c.args.key c.in-Some.slot (sym c.in-Some.ensures.value)));
      count = c.self.invariant.count ∙ sym (ap (λ l. l.places) c.to_front.ensures);
      apart = c.self.invariant.apart;
      told_low = c.self.invariant.told_low;
    }

pub returns-in-Some-clause-entries : goal.returns-in-Some-clause-entries
returns-in-Some-clause-entries g c =
    let s = c.self.inside in
    ap (λ l. entries_of s.slots.items l.order) c.to_front.ensures
    ∙ first_promoted s.slots.items s.free.items _ s.keys s.links c.self.invariant.order c.args.key
    c.in-Some.slot (sym c.in-Some.ensures.value)
    ∙ ap (λ o. promoted c.args.key o.entries) c.self.view_is

pub returns-in_default-clause-entries : goal.returns-in_default-clause-entries
returns-in_default-clause-entries g c =
    let key = c.args.key in
    let es = c.args.self.now.entries in
    let none = sym (ap (λ o. entry_at key o.entries) c.self.view_is)
    ∙ entry_by_none _ _ _ _ _ c.self.invariant.order key (sym c.in_default.ensures.value) in
    sym (ap (λ o. option_map_or (λ e. e ∷ remove_entry (nat_eq key) es) o es)
    (lookup_entry-none (nat_eq key) es none))
