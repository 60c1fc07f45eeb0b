-- A shard with no tile is lawful for each tag, and one more shard is made.
use Rattle.std.proofs.Common.{◌++◌, ◌∷◌, [], List, length, map, ap, subst, sym, ◌∙◌, arith}
use Rattle.std.specs.List.{All}
use Rattle.std.proofs.lemmas.List.{length_push, map-append}
use Rattle.std.proofs.lemmas.List.Elements.{All-push}
use Rattle.tile_store.specs.Slots.{ShardState, empty_shard}
use Rattle.shard_gate.specs.Words.{AreBlank}
use Rattle.shard_gate.specs.Home.{IsHome, words_of}
use Rattle.shard_gate.proofs.HomeLemmas.{blank_home, blank_words}
use Rattle.shard_gate.specs.Seated.{ShardId, IsMadeBy, first_seat}
use Rattle.shard_gate.proofs.laid.laid.Goals as goal

pub new-requires-in-loop-shard-clause-lawful : goal.new-requires-in-loop-shard-clause-lawful
new-requires-in-loop-shard-clause-lawful g c =
    subst (λ (t : ShardState). IsHome g.W.World.files c.args.terms.now t) (sym c.new.ensures)
    (blank_home g.W.World.files c.args.terms.now c.in-Ok.shard
    (c.in-Ok.ensures.value ∙ ap empty_shard c.slots.ensures)
    (c.in-Ok.ensures.lawful c.args.terms.now.tag) c.tiles.ensures.slots)

pub new-requires-in-loop-shard-clause-blank : goal.new-requires-in-loop-shard-clause-blank
new-requires-in-loop-shard-clause-blank g c =
    subst (λ (t : ShardState). AreBlank c.args.terms.now.passes (words_of t)) (sym c.new.ensures)
    (blank_words c.args.terms.now.passes c.in-Ok.shard
    (c.in-Ok.ensures.value ∙ ap empty_shard c.slots.ensures))

pub new-requires-in-loop-shard-clause-empty : goal.new-requires-in-loop-shard-clause-empty
new-requires-in-loop-shard-clause-empty g c =
    ap (λ (t : ShardState). t.entries)
    (c.new.ensures ∙ (c.in-Ok.ensures.value ∙ ap empty_shard c.slots.ensures))

pub loop-shard-preserved : goal.loop-shard-preserved
loop-shard-preserved g c =
    let so_far = c.loop-shard.invariant in
    let tables = c.loop-shard.tables.items in
    let table = c.in_ok-table.table in
    let pushed = c.push_reserved.ensures.items in
    record {
      made = subst
          (λ (l : List ShardId). All (IsMadeBy c.args.terms.now.tag c.args.terms.now.passes) l)
          (sym pushed)
          (All-push (IsMadeBy c.args.terms.now.tag c.args.terms.now.passes) tables table
          so_far.made c.in_ok-table.ensures.terms);
      count = omega (arith, so_far.count, ap length pushed, length_push tables table);
      seats = c.push_reserved-in-loop-shard.ensures.items
          ∙ ((λ i. so_far.seats i ++ c.in_ok-table.ensures.seat i ∷ [])
          ∙ sym (ap (map first_seat) pushed ∙ map-append first_seat tables (table ∷ [])));
      room = omega (arith, so_far.room, c.push_reserved.ensures.capacity);
      room_for_seats = omega (
        arith,
        so_far.room_for_seats,
        c.push_reserved-in-loop-shard.ensures.capacity,
      );
    }
