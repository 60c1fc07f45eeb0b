-- There is a slot for the tile, and the words that the seat knows are those of the shard.
use Rattle.std.proofs.Common.{◌≡◌, ◌∷◌, length, ap, subst, sym, ◌∙◌, refl, arith}
use Rattle.atomic_table.specs.Table.{Me, rest}
use Rattle.crossbeam_utils.specs.Padded.{padded_value, padded_with_value}
use Rattle.tile_store.specs.Lawful.{FitsTag}
use Rattle.tile_store.specs.Slots.{ShardState}
use Rattle.tile_store.specs.Changes.{inserted}
use Rattle.shard_gate.specs.declared.standing.Standing.{Standing}
use Rattle.shard_gate.specs.Words.{SlotWords, slots_of}
use Rattle.shard_gate.specs.Steps.{entries_of}
use Rattle.shard_gate.specs.Visit.{visit}
use Rattle.shard_gate.specs.Given.{HaveSlots}
use Rattle.shard_gate.specs.Home.{words_of}
use Rattle.shard_gate.proofs.HomeLemmas.{have_slots}
use Rattle.shard_gate.proofs.TurnLemmas.{known, slots_taken, gave_visits, kept_words}
use Rattle.shard_gate.specs.Words.{keys_of_pins}
use Rattle.shard_gate.specs.Seated.{ShardId, SeatAt}
use Rattle.shard_gate.specs.Turn.{terms_of}
use Rattle.shard_gate.proofs.PinLemmas.{length_keys}
use Rattle.shard_gate.proofs.TurnLemmas.{in_turn, pins_low, slots_left, may_keep, give_kept}
use Rattle.shard_gate.proofs.TurnLemmas.{kept_pins}
use Rattle.shard_gate.proofs.shard_table.ShardTable+W.insert.Goals as goal

pub insert_in-requires-clause-room : goal.insert_in-requires-clause-room
insert_in-requires-clause-room g c =
    let passes : c.seat.inside.seat.me.0.passes ≡ c.self.inside.table.shared.key.passes =
    ap (λ (v : SeatAt). v.shard.passes) c.seat.view_is
    ∙ (ap (λ (z : ShardId). z.passes) c.requires.shard
    ∙ sym (ap (λ (z : ShardId). z.passes) c.self.view_is)) in
    let turn = in_turn padded_value g.W.World.files c.seat.inside.seat.me.0 c.take.new.seat.me
    c.in_default.ensures.ok c.slot_mut-slot.result.now (rest c.take.new.seat.me.1)
    c.deref_mut.result.now c.slot_mut-slot.ensures.value c.deref_mut.ensures.value in
    record {
      slot = slots_left padded_value g.W.World.files c.seat.inside.seat.me.0
          c.take.new.seat.me c.deref_mut.result.now turn;
      count = pins_low padded_value g.W.World.files c.seat.inside.seat.me.0
          c.take.new.seat.me c.deref_mut.result.now turn
          (omega (arith, passes, c.self.invariant.few));
    }

pub keep_slot-requires-clause-may : goal.keep_slot-requires-clause-may
keep_slot-requires-clause-may g c =
    may_keep padded_value g.W.World.files c.seat.inside.seat.me.0
    c.take.new.seat.me c.deref_mut.result.now
    (in_turn padded_value g.W.World.files c.seat.inside.seat.me.0 c.take.new.seat.me
    c.in_default.ensures.ok c.slot_mut-slot.result.now (rest c.take.new.seat.me.1)
    c.deref_mut.result.now c.slot_mut-slot.ensures.value c.deref_mut.ensures.value)
    c.args.tile.key c.in-Ok.field-0.slot c.number-key.result c.insert_in.new.shard
    c.in-Ok.ensures.words (c.number-key.ensures.value ∙ c.key.ensures.value)
    c.seat.invariant.idle.live
    (omega (
      arith,
      c.requires.room,
      ap (λ (v : SeatAt). length v.pins) c.seat.view_is,
      ap (λ (v : SeatAt). v.permits) c.seat.view_is,
      length_keys c.seat.inside.seat.me.0.pins,
    ))
    c.number-key.ensures.some

pub give-requires-clause-lawful : goal.give-requires-clause-lawful
give-requires-clause-lawful g c =
    let turn = (in_turn padded_value g.W.World.files c.seat.inside.seat.me.0 c.take.new.seat.me
    c.in_default.ensures.ok c.slot_mut-slot.result.now (rest c.take.new.seat.me.1)
    c.deref_mut.result.now c.slot_mut-slot.ensures.value c.deref_mut.ensures.value) in
    let tag : c.seat.inside.seat.me.0.tag ≡ c.args.self.now.tag =
    ap (λ (v : SeatAt). v.shard.tag) c.seat.view_is ∙ ap (λ (z : ShardId). z.tag) c.requires.shard in
    give_kept padded_value g.W.World.files c.seat.inside.seat.me.0
    c.take.new.seat.me c.deref_mut.result.now
    (in_turn padded_value g.W.World.files c.seat.inside.seat.me.0 c.take.new.seat.me
    c.in_default.ensures.ok c.slot_mut-slot.result.now (rest c.take.new.seat.me.1)
    c.deref_mut.result.now c.slot_mut-slot.ensures.value c.deref_mut.ensures.value)
    c.args.tile.key c.in-Ok.field-0.slot c.number-key.result c.insert_in.new.shard
    c.in-Ok.ensures.words (c.number-key.ensures.value ∙ c.key.ensures.value)
    (padded_with_value c.slot_mut-slot.result.now c.insert_in.new.shard) refl
    (c.insert_in.ensures.stored (terms_of c.seat.inside.seat.me.0)
    (subst (λ n. FitsTag g.W.World.files c.args.tile n) (sym tag) c.requires.fits)
    turn.home.stored)
    c.insert_in.ensures.left c.keep_slot.new.seat.me c.keep_slot.ensures.seat

pub returns-in-Ok-clause-pinned : goal.returns-in-Ok-clause-pinned
returns-in-Ok-clause-pinned g c =
    ap (λ (v : Standing). keys_of_pins v.pins) c.give.ensures.view
    ∙ (kept_pins padded_value g.W.World.files c.seat.inside.seat.me.0
    c.take.new.seat.me c.deref_mut.result.now
    (in_turn padded_value g.W.World.files c.seat.inside.seat.me.0 c.take.new.seat.me
    c.in_default.ensures.ok c.slot_mut-slot.result.now (rest c.take.new.seat.me.1)
    c.deref_mut.result.now c.slot_mut-slot.ensures.value c.deref_mut.ensures.value)
    c.args.tile.key c.in-Ok.field-0.slot c.number-key.result c.insert_in.new.shard
    c.in-Ok.ensures.words (c.number-key.ensures.value ∙ c.key.ensures.value)
    c.keep_slot.new.seat.me.0 (ap (λ (m : Me _ Standing). m.0) c.keep_slot.ensures.seat)
    ∙ ap (λ l. c.args.tile.key ∷ l) (ap (λ (v : SeatAt). v.pins) c.seat.view_is))

pub returns-in-Ok-clause-ok : goal.returns-in-Ok-clause-ok
returns-in-Ok-clause-ok g c =
    let old = c.seat.inside.seat.me.0 in
    let s = c.deref_mut.result.now in
    let turn = in_turn padded_value g.W.World.files old c.take.new.seat.me
    c.in_default.ensures.ok c.slot_mut-slot.result.now (rest c.take.new.seat.me.1)
    s c.slot_mut-slot.ensures.value c.deref_mut.ensures.value in
    let keys = (words_of s).keys in
    let words : c.take.new.seat.me.0.known.keys ≡ keys =
    ap (λ (w : SlotWords). w.keys) (known padded_value g.W.World.files old c.take.new.seat.me s turn) in
    let tag : old.tag ≡ c.args.self.now.tag =
    ap (λ (v : SeatAt). v.shard.tag) c.seat.view_is ∙ ap (λ (z : ShardId). z.tag) c.requires.shard in
    let new = c.insert_in.new.shard in
    let stored = c.insert_in.ensures.stored (terms_of old)
    (subst (λ n. FitsTag g.W.World.files c.args.tile n) (sym tag) c.requires.fits)
    turn.home.stored in
    let count : length s.slots ≡ slots_of c.args.self.now.passes =
    turn.home.stored.count ∙ ap slots_of (ap (λ (v : SeatAt). v.shard.passes) c.seat.view_is
    ∙ ap (λ (z : ShardId). z.passes) c.requires.shard) in
    let entries : new.entries ≡ inserted c.args.tile (slots_of c.args.self.now.passes) s.entries =
    c.in-Ok.ensures.entries ∙ ap (λ n. inserted c.args.tile n s.entries) count in
    record {
      taken = s.entries;
      keys = keys;
      slots = slots_taken padded_value g.W.World.files old c.take.new.seat.me s turn;
      kept = c.in-Ok.ensures.kept;
      keys_given = (words_of new).keys;
      slots_given = subst (λ es. HaveSlots (words_of new).keys es) entries
          (have_slots new stored.in_slots);
      left = gave_visits padded_value g.W.World.files old c.take.new.seat.me s turn
          c.give.new.seat.me.0 c.keep_slot.new.seat.me.0
          (entries_of (λ b. (padded_value {T = ShardState} b).entries) c.keep_slot.new.seat.me.1)
          (inserted c.args.tile (slots_of c.args.self.now.passes) s.entries) (words_of new).keys
          c.give.ensures.view
          (ap (λ (m : Me _ Standing). entries_of (λ b. (padded_value {T = ShardState} b).entries) m.1)
          c.keep_slot.ensures.seat ∙ entries)
          (ap (λ (m : Me _ Standing). m.0.visits) c.keep_slot.ensures.seat)
          (ap (λ (m : Me _ Standing). m.0.known.keys) c.keep_slot.ensures.seat
          ∙ kept_words padded_value g.W.World.files old c.take.new.seat.me s turn
          c.args.tile.key c.in-Ok.field-0.slot c.number-key.result new c.in-Ok.ensures.words
          (c.number-key.ensures.value ∙ c.key.ensures.value))
          ∙ ap (λ l. visit s.entries keys
          (inserted c.args.tile (slots_of c.args.self.now.passes) s.entries) (words_of new).keys ∷ l)
          (ap (λ (v : SeatAt). v.visits) c.seat.view_is);
    }

pub returns-in-Err-insert_in-clause-err : goal.returns-in-Err-insert_in-clause-err
returns-in-Err-insert_in-clause-err g c =
    let old = c.seat.inside.seat.me.0 in
    let s = c.deref_mut.result.now in
    let turn = in_turn padded_value g.W.World.files old c.take.new.seat.me
    c.in_default.ensures.ok c.slot_mut-slot.result.now (rest c.take.new.seat.me.1)
    s c.slot_mut-slot.ensures.value c.deref_mut.ensures.value in
    let keys = (words_of s).keys in
    let words : c.take.new.seat.me.0.known.keys ≡ keys =
    ap (λ (w : SlotWords). w.keys) (known padded_value g.W.World.files old c.take.new.seat.me s turn) in
    record {
      taken = s.entries;
      keys = keys;
      slots = slots_taken padded_value g.W.World.files old c.take.new.seat.me s turn;
      left = gave_visits padded_value g.W.World.files old c.take.new.seat.me s turn
          c.give-in-Err-insert_in.new.seat.me.0 c.take.new.seat.me.0 c.insert_in.new.shard.entries
          s.entries keys c.give-in-Err-insert_in.ensures.view
          (ap (λ (t : ShardState). t.entries) c.in-Err-insert_in.ensures.err) refl words
          ∙ ap (λ l. visit s.entries keys s.entries keys ∷ l)
          (ap (λ (v : SeatAt). v.visits) c.seat.view_is);
    }
