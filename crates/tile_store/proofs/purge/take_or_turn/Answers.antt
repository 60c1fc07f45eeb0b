use Rattle.std.proofs.Common.{◌≡◌, ◌∙◌, nat_eq, ap, sym, arith}
use Rattle.std.specs.Map.{remove_entry}
use Rattle.tile_store.specs.Leaving.{promoted}
use Rattle.tile_store.specs.CachedTile.{loose_bytes}
use Rattle.tile_store.proofs.PurgeLemmas.{last_turns, turned-last}
use Rattle.tile_store.proofs.LeftLemmas.{same_empties, lost_empties}
use Rattle.tile_store.proofs.purge.take_or_turn.Goals as goal

pub returns-then-is_stale-clause-entries : goal.returns-then-is_stale-clause-entries
returns-then-is_stale-clause-entries g c =
    let stale = sym c.is_stale.ensures ∙ c.if-is_stale.true in
    let turned = rw stale at (turned-last c.args.file c.args.below
    (c.in-Some.entry.now.tile.key, c.in-Some.entry.now) c.args.order.now.entries (sym c.in-Some.ensures)) in
    let turns = last_turns _ _ c.len.ensures.valid (sym c.in-Some.ensures) c.requires in
    c.pop.ensures.entries ∙ ap (λ k. remove_entry (nat_eq k) c.args.order.now.entries) c.key-key.ensures ∙ turns.removed_is ∙ sym turned

pub returns-then-is_stale-clause-bytes : goal.returns-then-is_stale-clause-bytes
returns-then-is_stale-clause-bytes g c =
    let turns = last_turns _ _ c.len.ensures.valid (sym c.in-Some.ensures) c.requires in
    let left = c.pop.ensures.entries ∙ ap (λ k. remove_entry (nat_eq k) c.args.order.now.entries) c.key-key.ensures ∙ turns.removed_is in
    rw (left, c.unpinned_bytes-bytes.ensures.value) turns.taken

pub returns-else-is_stale-clause-entries : goal.returns-else-is_stale-clause-entries
returns-else-is_stale-clause-entries g c =
    let turns = last_turns _ _ c.len.ensures.valid (sym c.in-Some.ensures) c.requires in
    let fresh = sym c.is_stale.ensures ∙ c.if-is_stale.false in
    let turned = rw fresh at (turned-last c.args.file c.args.below
    (c.in-Some.entry.now.tile.key, c.in-Some.entry.now) c.args.order.now.entries (sym c.in-Some.ensures)) in
    c.promote.ensures.entries ∙ ap (λ k. promoted k c.args.order.now.entries) c.key-key.ensures
    ∙ turns.promoted_is ∙ sym turned

pub returns-else-is_stale-clause-bytes : goal.returns-else-is_stale-clause-bytes
returns-else-is_stale-clause-bytes g c =
    let turns = last_turns _ _ c.len.ensures.valid (sym c.in-Some.ensures) c.requires in
    let same : loose_bytes c.promote.new.self.entries ≡ loose_bytes c.args.order.now.entries =
    ap loose_bytes (c.promote.ensures.entries ∙ ap (λ k. promoted k c.args.order.now.entries) c.key-key.ensures)
    ∙ ap loose_bytes turns.promoted_is ∙ turns.turned_loose in
    omega arith

pub returns-then-is_stale-clause-slots : goal.returns-then-is_stale-clause-slots
returns-then-is_stale-clause-slots g c =
    lost_empties c.key-key.result c.args.order.now c.pop.new.self c.pop.ensures.slots

pub returns-else-is_stale-clause-slots : goal.returns-else-is_stale-clause-slots
returns-else-is_stale-clause-slots g c = same_empties c.args.order.now c.promote.new.self c.promote.ensures.slots
