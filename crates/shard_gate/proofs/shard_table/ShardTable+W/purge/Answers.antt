-- Which entries does a purge find and leave?
use Rattle.std.proofs.Common.{◌∷◌, ap, subst, refl, ◌∙◌}
use Rattle.atomic_table.specs.Table.{rest}
use Rattle.crossbeam_utils.specs.Padded.{padded_value, padded_with_value}
use Rattle.shard_gate.specs.Visit.{visit}
use Rattle.shard_gate.specs.Given.{HaveSlots}
use Rattle.shard_gate.specs.Home.{words_of}
use Rattle.shard_gate.specs.Seated.{SeatAt}
use Rattle.shard_gate.specs.Turn.{terms_of}
use Rattle.shard_gate.proofs.TurnLemmas.{in_turn, purging, slots_taken, slots_last, last_visits}
use Rattle.shard_gate.proofs.shard_table.ShardTable+W.purge.Goals as goal

pub tell_left-requires-clause-telling : goal.tell_left-requires-clause-telling
tell_left-requires-clause-telling g c =
    let old = c.seat.inside.seat.me.0 in
    let turn = in_turn padded_value g.W.World.files old c.take.new.seat.me
    c.in_ok-take.ensures.ok c.slot_mut-slot.result.now (rest c.take.new.seat.me.1)
    c.deref_mut.result.now c.slot_mut-slot.ensures.value c.deref_mut.ensures.value in
    purging padded_value g.W.World.files old c.take.new.seat.me c.deref_mut.result.now turn
    c.seat.invariant.idle.live c.purge_in.new.shard
    (padded_with_value c.slot_mut-slot.result.now c.purge_in.new.shard) refl
    c.purge_in.ensures.behind
    (c.purge_in.ensures.stored (terms_of old) tt turn.home.stored)

pub returns-clause-ok : goal.returns-clause-ok
returns-clause-ok g c =
    let old = c.seat.inside.seat.me.0 in
    let s = c.deref_mut.result.now in
    let new = c.purge_in.new.shard in
    let turn = in_turn padded_value g.W.World.files old c.take.new.seat.me
    c.in_ok-take.ensures.ok c.slot_mut-slot.result.now (rest c.take.new.seat.me.1)
    s c.slot_mut-slot.ensures.value c.deref_mut.ensures.value in
    let body = padded_with_value c.slot_mut-slot.result.now new in
    let told = c.tell_left.ensures.told in
    record {
      taken = s.entries;
      keys = (words_of s).keys;
      slots = slots_taken padded_value g.W.World.files old c.take.new.seat.me s turn;
      keys_given = (words_of (padded_value told.body)).keys;
      slots_given = subst (λ es. HaveSlots (words_of (padded_value told.body)).keys es)
          c.purge_in.ensures.entries
          (slots_last padded_value g.W.World.files old c.take.new.seat.me s turn body new refl
          (c.take.new.seat.me.0, (0, body) ∷ rest c.take.new.seat.me.1)
          c.tell_left.new.seat.me c.give.new.seat.me.0 refl refl told c.give.ensures.view);
      left = last_visits padded_value g.W.World.files old c.take.new.seat.me s turn body new refl
          (c.take.new.seat.me.0, (0, body) ∷ rest c.take.new.seat.me.1)
          c.tell_left.new.seat.me c.give.new.seat.me.0 refl refl told c.give.ensures.view
          ∙ (λ i. visit s.entries (words_of s).keys (c.purge_in.ensures.entries i)
          (words_of (padded_value told.body)).keys
          ∷ ap (λ (v : SeatAt). v.visits) c.seat.view_is i);
    }
