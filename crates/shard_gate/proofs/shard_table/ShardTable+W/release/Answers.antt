-- The pin belongs to the seat, and each slot that a tile left is reported.
use Rattle.std.proofs.Common.{◌≡◌, ◌∷◌, ℕ, List, ap, subst, sym, ◌∙◌, refl}
use Rattle.std.specs.Prelude.{Contains, IsPermutation}
use Rattle.atomic_table.specs.Table.{Me, rest}
use Rattle.tile_store.specs.Slots.{ShardState}
use Rattle.shard_gate.specs.declared.standing.Standing.{Standing}
use Rattle.shard_gate.specs.Steps.{entries_of}
use Rattle.crossbeam_utils.specs.Padded.{padded_value, padded_with_value}
use Rattle.tile_store.specs.Tag.{share_in_tag}
use Rattle.shard_gate.specs.Visit.{visit}
use Rattle.shard_gate.specs.Words.{keys_of_pins}
use Rattle.shard_gate.specs.Seated.{ShardId, SeatAt}
use Rattle.shard_gate.specs.Turn.{terms_of}
use Rattle.shard_gate.proofs.TurnLemmas.{in_turn, own_entry, may_unpin, telling, keys_less}
use Rattle.shard_gate.specs.Home.{words_of}
use Rattle.shard_gate.specs.Given.{HaveSlots}
use Rattle.shard_gate.proofs.TurnLemmas.{last_pins, last_visits, slots_taken, slots_last}
use Rattle.shard_gate.proofs.shard_table.ShardTable+W.release.Goals as goal

pub release_in-unpinned-requires-clause-pin : goal.release_in-unpinned-requires-clause-pin
release_in-unpinned-requires-clause-pin g c =
    own_entry padded_value g.W.World.files c.seat.inside.seat.me.0
    c.take.new.seat.me c.deref_mut.result.now
    (in_turn padded_value g.W.World.files c.seat.inside.seat.me.0 c.take.new.seat.me
    c.in_ok-take.ensures.ok c.slot_mut-slot.result.now (rest c.take.new.seat.me.1)
    c.deref_mut.result.now c.slot_mut-slot.ensures.value c.deref_mut.ensures.value)
    c.args.key
    (subst (λ (l : List ℕ). Contains l c.args.key) (sym (ap (λ (v : SeatAt). v.pins) c.seat.view_is))
    c.requires.made)

pub unpin_slot-requires-clause-may : goal.unpin_slot-requires-clause-may
unpin_slot-requires-clause-may g c =
    may_unpin padded_value g.W.World.files c.seat.inside.seat.me.0
    c.take.new.seat.me c.deref_mut.result.now
    (in_turn padded_value g.W.World.files c.seat.inside.seat.me.0 c.take.new.seat.me
    c.in_ok-take.ensures.ok c.slot_mut-slot.result.now (rest c.take.new.seat.me.1)
    c.deref_mut.result.now c.slot_mut-slot.ensures.value c.deref_mut.ensures.value)
    c.args.key c.release_in-unpinned.result
    (subst (λ (l : List ℕ). Contains l c.args.key) (sym (ap (λ (v : SeatAt). v.pins) c.seat.view_is))
    c.requires.made)
    c.release_in-unpinned.ensures.slot
    c.seat.invariant.idle.live

pub tell_left-requires-clause-telling : goal.tell_left-requires-clause-telling
tell_left-requires-clause-telling g c =
    let turn = (in_turn padded_value g.W.World.files c.seat.inside.seat.me.0 c.take.new.seat.me
    c.in_ok-take.ensures.ok c.slot_mut-slot.result.now (rest c.take.new.seat.me.1)
    c.deref_mut.result.now c.slot_mut-slot.ensures.value c.deref_mut.ensures.value) in
    let tag : c.seat.inside.seat.me.0.tag ≡ c.args.self.now.tag =
    ap (λ (v : SeatAt). v.shard.tag) c.seat.view_is ∙ ap (λ (z : ShardId). z.tag) c.requires.shard in
    telling padded_value g.W.World.files c.seat.inside.seat.me.0
    c.take.new.seat.me c.deref_mut.result.now
    (in_turn padded_value g.W.World.files c.seat.inside.seat.me.0 c.take.new.seat.me
    c.in_ok-take.ensures.ok c.slot_mut-slot.result.now (rest c.take.new.seat.me.1)
    c.deref_mut.result.now c.slot_mut-slot.ensures.value c.deref_mut.ensures.value)
    c.args.key c.release_in-unpinned.result
    (subst (λ (l : List ℕ). Contains l c.args.key) (sym (ap (λ (v : SeatAt). v.pins) c.seat.view_is))
    c.requires.made)
    c.release_in-unpinned.ensures.slot
    c.seat.invariant.idle.live c.release_in-unpinned.new.shard
    (padded_with_value c.slot_mut-slot.result.now c.release_in-unpinned.new.shard) refl
    c.release_in-unpinned.ensures.behind
    (c.release_in-unpinned.ensures.stored (terms_of c.seat.inside.seat.me.0)
    (ap share_in_tag tag ∙ c.requires.share) turn.home.stored)
    c.unpin_slot.new.seat.me c.unpin_slot.ensures.seat

pub returns-clause-pins : goal.returns-clause-pins
returns-clause-pins g c =
    let less = keys_less padded_value g.W.World.files c.seat.inside.seat.me.0
    c.take.new.seat.me c.deref_mut.result.now
    (in_turn padded_value g.W.World.files c.seat.inside.seat.me.0 c.take.new.seat.me
    c.in_ok-take.ensures.ok c.slot_mut-slot.result.now (rest c.take.new.seat.me.1)
    c.deref_mut.result.now c.slot_mut-slot.ensures.value c.deref_mut.ensures.value)
    c.args.key c.release_in-unpinned.result
    (subst (λ (l : List ℕ). Contains l c.args.key) (sym (ap (λ (v : SeatAt). v.pins) c.seat.view_is))
    c.requires.made)
    c.release_in-unpinned.ensures.slot in
    let last = last_pins padded_value g.W.World.files c.seat.inside.seat.me.0
    c.take.new.seat.me c.deref_mut.result.now
    (in_turn padded_value g.W.World.files c.seat.inside.seat.me.0 c.take.new.seat.me
    c.in_ok-take.ensures.ok c.slot_mut-slot.result.now (rest c.take.new.seat.me.1)
    c.deref_mut.result.now c.slot_mut-slot.ensures.value c.deref_mut.ensures.value)
    c.release_in-unpinned.result c.unpin_slot.new.seat.me c.tell_left.new.seat.me
    c.give.new.seat.me.0
    ((0, padded_with_value c.slot_mut-slot.result.now c.release_in-unpinned.new.shard)
    ∷ rest c.take.new.seat.me.1)
    (entries_of (λ b. (padded_value {T = ShardState} b).entries) c.tell_left.new.seat.me.1)
    c.unpin_slot.ensures.seat c.tell_left.ensures.told c.give.ensures.view in
    subst (λ l. IsPermutation l (c.args.key ∷ keys_of_pins c.give.new.seat.me.0.pins))
    (ap (λ (v : SeatAt). v.pins) c.seat.view_is)
    (subst (λ l. IsPermutation (keys_of_pins c.seat.inside.seat.me.0.pins) (c.args.key ∷ keys_of_pins l))
    (sym last) less)

pub returns-clause-ok : goal.returns-clause-ok
returns-clause-ok g c =
    let old = c.seat.inside.seat.me.0 in
    let s = c.deref_mut.result.now in
    let new = c.release_in-unpinned.new.shard in
    let turn = in_turn padded_value g.W.World.files old c.take.new.seat.me
    c.in_ok-take.ensures.ok c.slot_mut-slot.result.now (rest c.take.new.seat.me.1)
    s c.slot_mut-slot.ensures.value c.deref_mut.ensures.value in
    let body = padded_with_value c.slot_mut-slot.result.now new in
    let told = c.tell_left.ensures.told in
    record {
      taken = s.entries;
      keys = (words_of s).keys;
      slots = slots_taken padded_value g.W.World.files old c.take.new.seat.me s turn;
      pin = own_entry padded_value g.W.World.files old c.take.new.seat.me s turn c.args.key
          (subst (λ (l : List ℕ). Contains l c.args.key) (sym (ap (λ (v : SeatAt). v.pins) c.seat.view_is))
          c.requires.made);
      keys_given = (words_of (padded_value told.body)).keys;
      slots_given = subst (λ es. HaveSlots (words_of (padded_value told.body)).keys es)
          c.release_in-unpinned.ensures.entries
          (slots_last padded_value g.W.World.files old c.take.new.seat.me s turn
          body new refl c.unpin_slot.new.seat.me c.tell_left.new.seat.me c.give.new.seat.me.0
          (ap (λ (m : Me _ Standing). m.1) c.unpin_slot.ensures.seat)
          (ap (λ (m : Me _ Standing). m.0.visits) c.unpin_slot.ensures.seat) told
          c.give.ensures.view);
      left = last_visits padded_value g.W.World.files old c.take.new.seat.me s turn
          body new refl c.unpin_slot.new.seat.me c.tell_left.new.seat.me c.give.new.seat.me.0
          (ap (λ (m : Me _ Standing). m.1) c.unpin_slot.ensures.seat)
          (ap (λ (m : Me _ Standing). m.0.visits) c.unpin_slot.ensures.seat) told
          c.give.ensures.view
          ∙ (λ i. visit s.entries (words_of s).keys (c.release_in-unpinned.ensures.entries i)
          (words_of (padded_value told.body)).keys
          ∷ ap (λ (v : SeatAt). v.visits) c.seat.view_is i);
    }
