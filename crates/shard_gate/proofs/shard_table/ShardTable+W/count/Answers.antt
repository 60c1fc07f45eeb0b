-- The seat's pins are among those of the entries, and are all of them if it has all permits.
use Rattle.std.proofs.Common.{◌≡◌, ◌∷◌, ap, sym, subst, ◌∙◌, refl, arith}
use Rattle.std.specs.Prelude.{length}
use Rattle.atomic_table.specs.Table.{rest}
use Rattle.crossbeam_utils.specs.Padded.{padded_value}
use Rattle.tile_store.specs.Lawful.{Lawful}
use Rattle.tile_store.specs.Slots.{ShardState}
use Rattle.shard_gate.specs.Words.{SlotWords}
use Rattle.shard_gate.specs.Visit.{visit}
use Rattle.shard_gate.specs.Home.{words_of}
use Rattle.shard_gate.specs.Everyone.{ArePinsOfAll, taken_last}
use Rattle.shard_gate.specs.Seated.{ShardId, SeatAt}
use Rattle.shard_gate.proofs.EveryoneLemmas.{entries_pins}
use Rattle.shard_gate.proofs.TurnLemmas.{in_turn, own_counted, all_counted}
use Rattle.shard_gate.proofs.TurnLemmas.{known, slots_taken, gave_visits}
use Rattle.shard_gate.proofs.shard_table.ShardTable+W.count.Goals as goal

pub returns-clause-own : goal.returns-clause-own
returns-clause-own g c =
    let turn = in_turn padded_value g.W.World.files c.seat.inside.seat.me.0 c.take.new.seat.me
    c.in_ok-take.ensures.ok c.slot_mut-slot.result.now (rest c.take.new.seat.me.1)
    c.deref.result.now c.slot_mut-slot.ensures.value c.deref.ensures in
    omega (
      arith,
      own_counted padded_value g.W.World.files c.seat.inside.seat.me.0 c.take.new.seat.me
          c.deref.result.now turn,
      ap (λ (v : SeatAt). length v.pins) c.seat.view_is,
      c.count_in-count.ensures.value.pins,
    )

pub returns-clause-alone : goal.returns-clause-alone
returns-clause-alone g c all =
    let turn = in_turn padded_value g.W.World.files c.seat.inside.seat.me.0 c.take.new.seat.me
    c.in_ok-take.ensures.ok c.slot_mut-slot.result.now (rest c.take.new.seat.me.1)
    c.deref.result.now c.slot_mut-slot.ensures.value c.deref.ensures in
    omega (
      arith,
      all_counted padded_value g.W.World.files c.seat.inside.seat.me.0 c.take.new.seat.me
          c.deref.result.now turn
          (omega (
            arith,
            all,
            ap (λ (v : SeatAt). v.permits) c.seat.view_is,
            ap (λ (v : SeatAt). v.shard.passes) c.seat.view_is,
            ap (λ (z : ShardId). z.passes) c.requires.shard,
          )),
      ap (λ (v : SeatAt). length v.pins) c.seat.view_is,
      c.count_in-count.ensures.value.pins,
    )

pub returns-clause-ok : goal.returns-clause-ok
returns-clause-ok g c =
    let old = c.seat.inside.seat.me.0 in
    let s = c.deref.result.now in
    let turn = in_turn padded_value g.W.World.files old c.take.new.seat.me
    c.in_ok-take.ensures.ok c.slot_mut-slot.result.now (rest c.take.new.seat.me.1)
    s c.slot_mut-slot.ensures.value c.deref.ensures in
    let tag : old.tag ≡ c.args.self.now.tag =
    ap (λ (v : SeatAt). v.shard.tag) c.seat.view_is ∙ ap (λ (z : ShardId). z.tag) c.requires.shard in
    record {
      taken = s.entries;
      numbers = c.count_in-count.ensures.value;
      lawful = subst (λ n. Lawful g.W.World.files n s.entries) tag turn.home.stored.entries;
      keys = (words_of s).keys;
      slots = slots_taken padded_value g.W.World.files old c.take.new.seat.me s turn;
      left = gave_visits padded_value g.W.World.files old c.take.new.seat.me s turn
          c.give.new.seat.me.0 c.take.new.seat.me.0
          (padded_value c.slot_mut-slot.result.now).entries s.entries (words_of s).keys c.give.ensures.view
          (ap (λ (t : ShardState). t.entries) (sym c.deref.ensures)) refl
          (ap (λ (w : SlotWords). w.keys)
          (known padded_value g.W.World.files old c.take.new.seat.me s turn))
          ∙ ap (λ l. visit s.entries (words_of s).keys s.entries (words_of s).keys ∷ l)
          (ap (λ (v : SeatAt). v.visits) c.seat.view_is);
    }

pub returns-clause-everyone : goal.returns-clause-everyone
returns-clause-everyone g c =
    let old = c.seat.inside.seat.me.0 in
    let s = c.deref.result.now in
    let turn = in_turn padded_value g.W.World.files old c.take.new.seat.me
    c.in_ok-take.ensures.ok c.slot_mut-slot.result.now (rest c.take.new.seat.me.1)
    s c.slot_mut-slot.ensures.value c.deref.ensures in
    subst (λ es. ArePinsOfAll c.args.seat.now.pins es)
    (sym (ap taken_last (gave_visits padded_value g.W.World.files old c.take.new.seat.me s turn
    c.give.new.seat.me.0 c.take.new.seat.me.0
    (padded_value c.slot_mut-slot.result.now).entries s.entries (words_of s).keys c.give.ensures.view
    (ap (λ (t : ShardState). t.entries) (sym c.deref.ensures)) refl
    (ap (λ (w : SlotWords). w.keys)
    (known padded_value g.W.World.files old c.take.new.seat.me s turn)))))
    (subst (λ l. ArePinsOfAll l s.entries) (ap (λ (v : SeatAt). v.pins) c.seat.view_is)
    (entries_pins s turn.home.stored.in_slots old.pins turn.all))
