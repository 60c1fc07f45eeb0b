-- The words that the seat knows are those of the shard, and they have its own pins.
use Rattle.std.proofs.Common.{◌≡◌, ◌∷◌, List, ap, sym, subst, ◌∙◌, refl, arith}
use Rattle.std.specs.Prelude.{ℕ, Contains}
use Rattle.atomic_table.specs.Table.{Me, rest}
use Rattle.crossbeam_utils.specs.Padded.{padded_value, padded_with_value}
use Rattle.tile_store.specs.Slots.{ShardState}
use Rattle.tile_store.specs.Changes.{pinned_first}
use Rattle.shard_gate.specs.declared.standing.Standing.{Standing}
use Rattle.shard_gate.specs.Words.{SlotWords}
use Rattle.shard_gate.specs.Steps.{entries_of}
use Rattle.shard_gate.specs.Visit.{visit}
use Rattle.shard_gate.specs.Home.{words_of}
use Rattle.shard_gate.specs.Seated.{ShardId, SeatAt}
use Rattle.shard_gate.specs.Turn.{terms_of}
use Rattle.shard_gate.proofs.TurnLemmas.{in_turn, pins_low, own_found, give_pinned}
use Rattle.shard_gate.proofs.TurnLemmas.{known, slots_taken, gave_visits}
use Rattle.shard_gate.proofs.shard_table.ShardTable+W.find.Goals as goal

pub find_in-requires-clause-pins : goal.find_in-requires-clause-pins
find_in-requires-clause-pins g c =
    let passes : c.seat.inside.seat.me.0.passes ≡ c.self.inside.table.shared.key.passes =
    ap (λ (v : SeatAt). v.shard.passes) c.seat.view_is
    ∙ (ap (λ (z : ShardId). z.passes) c.requires.shard
    ∙ sym (ap (λ (z : ShardId). z.passes) c.self.view_is)) in
    pins_low padded_value g.W.World.files c.seat.inside.seat.me.0
    c.take.new.seat.me c.deref_mut.result.now
    (in_turn padded_value g.W.World.files c.seat.inside.seat.me.0 c.take.new.seat.me
    c.in_default.ensures.ok c.slot_mut-slot.result.now (rest c.take.new.seat.me.1)
    c.deref_mut.result.now c.slot_mut-slot.ensures.value c.deref_mut.ensures.value)
    (omega (arith, passes, c.self.invariant.few))

pub give-requires-clause-lawful : goal.give-requires-clause-lawful
give-requires-clause-lawful g c =
    let turn = (in_turn padded_value g.W.World.files c.seat.inside.seat.me.0 c.take.new.seat.me
    c.in_default.ensures.ok c.slot_mut-slot.result.now (rest c.take.new.seat.me.1)
    c.deref_mut.result.now c.slot_mut-slot.ensures.value c.deref_mut.ensures.value) in
    give_pinned padded_value g.W.World.files c.seat.inside.seat.me.0
    c.take.new.seat.me c.deref_mut.result.now
    (in_turn padded_value g.W.World.files c.seat.inside.seat.me.0 c.take.new.seat.me
    c.in_default.ensures.ok c.slot_mut-slot.result.now (rest c.take.new.seat.me.1)
    c.deref_mut.result.now c.slot_mut-slot.ensures.value c.deref_mut.ensures.value)
    c.args.key c.in-Ok-Some.field-0-0.slot
    (padded_with_value c.slot_mut-slot.result.now c.find_in.new.shard) c.find_in.new.shard refl
    (rw c.in-Ok-Some.field-0-is at c.in-Ok-Some.ensures.words)
    (c.find_in.ensures.stored (terms_of c.seat.inside.seat.me.0) tt turn.home.stored)
    c.find_in.ensures.left c.pin_slot.new.seat.me c.pin_slot.ensures.seat

pub returns-in-Ok-None-clause-held : goal.returns-in-Ok-None-clause-held
returns-in-Ok-None-clause-held g c = λ has.
    own_found padded_value g.W.World.files c.seat.inside.seat.me.0
    c.take.new.seat.me c.deref_mut.result.now
    (in_turn padded_value g.W.World.files c.seat.inside.seat.me.0 c.take.new.seat.me
    c.in_default.ensures.ok c.slot_mut-slot.result.now (rest c.take.new.seat.me.1)
    c.deref_mut.result.now c.slot_mut-slot.ensures.value c.deref_mut.ensures.value)
    c.args.key
    (subst (λ (l : List ℕ). Contains l c.args.key) (sym (ap (λ (v : SeatAt). v.pins) c.seat.view_is)) has)
    (rw c.in-Ok-None.field-0-is at c.in-Ok-None.ensures.found)

pub returns-in-Ok-Some-clause-ok : goal.returns-in-Ok-Some-clause-ok
returns-in-Ok-Some-clause-ok g c =
    let old = c.seat.inside.seat.me.0 in
    let s = c.deref_mut.result.now in
    let turn = in_turn padded_value g.W.World.files old c.take.new.seat.me
    c.in_default.ensures.ok c.slot_mut-slot.result.now (rest c.take.new.seat.me.1)
    s c.slot_mut-slot.ensures.value c.deref_mut.ensures.value in
    let keys = (words_of s).keys in
    let words : c.take.new.seat.me.0.known.keys ≡ keys =
    ap (λ (w : SlotWords). w.keys) (known padded_value g.W.World.files old c.take.new.seat.me s turn) in
    record {
      taken = s.entries;
      keys = keys;
      slots = slots_taken padded_value g.W.World.files old c.take.new.seat.me s turn;
      found = rw c.in-Ok-Some.field-0-is at c.in-Ok-Some.ensures.found;
      left = gave_visits padded_value g.W.World.files old c.take.new.seat.me s turn
          c.give.new.seat.me.0 c.pin_slot.new.seat.me.0
          (entries_of (λ b. (padded_value {T = ShardState} b).entries) c.pin_slot.new.seat.me.1)
          (pinned_first c.args.key s.entries) keys c.give.ensures.view
          (ap (λ (m : Me _ Standing). entries_of (λ b. (padded_value {T = ShardState} b).entries) m.1)
          c.pin_slot.ensures.seat ∙ c.in-Ok-Some.ensures.entries)
          (ap (λ (m : Me _ Standing). m.0.visits) c.pin_slot.ensures.seat)
          (ap (λ (m : Me _ Standing). m.0.known.keys) c.pin_slot.ensures.seat ∙ words)
          ∙ ap (λ l. visit s.entries keys (pinned_first c.args.key s.entries) keys ∷ l)
          (ap (λ (v : SeatAt). v.visits) c.seat.view_is);
    }

pub returns-in-Ok-None-clause-ok : goal.returns-in-Ok-None-clause-ok
returns-in-Ok-None-clause-ok g c =
    let old = c.seat.inside.seat.me.0 in
    let s = c.deref_mut.result.now in
    let turn = in_turn padded_value g.W.World.files old c.take.new.seat.me
    c.in_default.ensures.ok c.slot_mut-slot.result.now (rest c.take.new.seat.me.1)
    s c.slot_mut-slot.ensures.value c.deref_mut.ensures.value in
    let keys = (words_of s).keys in
    let words : c.take.new.seat.me.0.known.keys ≡ keys =
    ap (λ (w : SlotWords). w.keys) (known padded_value g.W.World.files old c.take.new.seat.me s turn) in
    record {
      taken = s.entries;
      keys = keys;
      slots = slots_taken padded_value g.W.World.files old c.take.new.seat.me s turn;
      found = rw c.in-Ok-None.field-0-is at c.in-Ok-None.ensures.found;
      left = gave_visits padded_value g.W.World.files old c.take.new.seat.me s turn
          c.give-in-Ok-None.new.seat.me.0 c.take.new.seat.me.0 c.find_in.new.shard.entries
          (pinned_first c.args.key s.entries) keys c.give-in-Ok-None.ensures.view
          c.in-Ok-None.ensures.entries refl words
          ∙ ap (λ l. visit s.entries keys (pinned_first c.args.key s.entries) keys ∷ l)
          (ap (λ (v : SeatAt). v.visits) c.seat.view_is);
    }

pub returns-in-Err-find_in-clause-err : goal.returns-in-Err-find_in-clause-err
returns-in-Err-find_in-clause-err g c =
    let old = c.seat.inside.seat.me.0 in
    let s = c.deref_mut.result.now in
    let turn = in_turn padded_value g.W.World.files old c.take.new.seat.me
    c.in_default.ensures.ok c.slot_mut-slot.result.now (rest c.take.new.seat.me.1)
    s c.slot_mut-slot.ensures.value c.deref_mut.ensures.value in
    let keys = (words_of s).keys in
    let words : c.take.new.seat.me.0.known.keys ≡ keys =
    ap (λ (w : SlotWords). w.keys) (known padded_value g.W.World.files old c.take.new.seat.me s turn) in
    record {
      taken = s.entries;
      keys = keys;
      slots = slots_taken padded_value g.W.World.files old c.take.new.seat.me s turn;
      left = gave_visits padded_value g.W.World.files old c.take.new.seat.me s turn
          c.give-in-Err-find_in.new.seat.me.0 c.take.new.seat.me.0 c.find_in.new.shard.entries
          s.entries keys c.give-in-Err-find_in.ensures.view
          (ap (λ (t : ShardState). t.entries) c.in-Err-find_in.ensures.err) refl words
          ∙ ap (λ l. visit s.entries keys s.entries keys ∷ l)
          (ap (λ (v : SeatAt). v.visits) c.seat.view_is);
    }
