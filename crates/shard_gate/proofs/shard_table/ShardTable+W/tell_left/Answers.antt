-- One more slot was reported, or none is left.
use Rattle.std.proofs.Common.{length, ap, ◌∙◌, refl}
use Rattle.atomic_table.specs.Table.{rest}
use Rattle.crossbeam_utils.specs.Padded.{padded_value, padded_with_value}
use Rattle.tile_store.specs.Slots.{ShardState}
use Rattle.shard_gate.proofs.TellLemmas.{may_fill, told_low, tell_more, tell_all}
use Rattle.shard_gate.proofs.shard_table.ShardTable+W.tell_left.Goals as goal

pub fill_slot-requires-clause-may : goal.fill_slot-requires-clause-may
fill_slot-requires-clause-may g c =
    may_fill padded_value g.W.World.files c.args.seat.now.me
    c.telling.seat.me c.requires.telling c.telling.invariant.told c.slot_mut-in-telling.result.now
    (rest c.telling.seat.me.1) c.deref_mut.result.now c.left.new.self
    c.slot_mut-in-telling.ensures.value c.deref_mut.ensures.value
    (padded_with_value c.slot_mut-in-telling.result.now c.left.new.self) refl
    c.in-Some.slot c.in-Some.ensures.told
    (told_low padded_value g.W.World.files c.args.seat.now.me
    c.telling.seat.me c.requires.telling c.telling.invariant.told c.slot_mut-in-telling.result.now
    (rest c.telling.seat.me.1) c.deref_mut.result.now c.left.new.self
    c.slot_mut-in-telling.ensures.value c.deref_mut.ensures.value
    (padded_with_value c.slot_mut-in-telling.result.now c.left.new.self) refl
    c.slot_mut.result.now (rest c.args.seat.now.me.1) c.in-Some.slot c.slots-slots.result
    c.slot_mut.ensures.value
    (c.slots-slots.ensures.value ∙ ap (λ (s : ShardState). length s.slots) c.deref.ensures)
    c.if-slot-slots.true)

pub telling-preserved-then-slot-slots : goal.telling-preserved-then-slot-slots
telling-preserved-then-slot-slots g c = record {
  table = c.fill_slot.ensures.table ∙ c.telling.invariant.table;
  told = tell_more padded_value g.W.World.files c.args.seat.now.me
      c.telling.seat.me c.requires.telling c.telling.invariant.told c.slot_mut-in-telling.result.now
      (rest c.telling.seat.me.1) c.deref_mut.result.now c.left.new.self
      c.slot_mut-in-telling.ensures.value c.deref_mut.ensures.value
      (padded_with_value c.slot_mut-in-telling.result.now c.left.new.self) refl
      c.in-Some.slot c.in-Some.ensures.told
      (told_low padded_value g.W.World.files c.args.seat.now.me
      c.telling.seat.me c.requires.telling c.telling.invariant.told c.slot_mut-in-telling.result.now
      (rest c.telling.seat.me.1) c.deref_mut.result.now c.left.new.self
      c.slot_mut-in-telling.ensures.value c.deref_mut.ensures.value
      (padded_with_value c.slot_mut-in-telling.result.now c.left.new.self) refl
      c.slot_mut.result.now (rest c.args.seat.now.me.1) c.in-Some.slot c.slots-slots.result
      c.slot_mut.ensures.value
      (c.slots-slots.ensures.value ∙ ap (λ (s : ShardState). length s.slots) c.deref.ensures)
      c.if-slot-slots.true)
      c.fill_slot.new.seat.me c.fill_slot.ensures.seat;
}

pub returns-clause-told : goal.returns-clause-told
returns-clause-told g c =
    let tells = c.in_default.ensures.told in
    tell_all padded_value g.W.World.files c.args.seat.now.me
    c.telling.seat.me c.requires.telling c.telling.invariant.told c.slot_mut-in-telling.result.now
    (rest c.telling.seat.me.1) c.deref_mut.result.now c.left.new.self
    c.slot_mut-in-telling.ensures.value c.deref_mut.ensures.value
    (padded_with_value c.slot_mut-in-telling.result.now c.left.new.self) refl
    tells.entries tells.slots tells.left (tells.last refl)
