use Rattle.std.proofs.Common.{◌≡◌, ℕ, ◌+◌, ◌-◌, length, ◌∙◌, refl, sym, ap, arith}
use Rattle.tile_store.specs.Leaving.{turned}
use Rattle.tile_store.proofs.PurgeLemmas.{turned-turned_to, turned_to-some, turned_to-all}
use Rattle.tile_store.proofs.LeftLemmas.{same_empties, empties_more}
use Rattle.tile_store.proofs.purge.purge.Goals as goal

pub around-init : goal.around-init
around-init g c =
    let es = c.args.order.now.entries in
    let all : length es - 0 ≡ length es = omega arith in (
      record {
        entries = rw all (sym (turned_to-all c.args.file c.args.below es));
        bytes_are = omega arith;
      },
      same_empties c.args.order.now c.args.order.now (record { slots = refl; left = refl }),
    )

pub take_or_turn-bytes-requires : goal.take_or_turn-bytes-requires
take_or_turn-bytes-requires g c =
    let es = c.args.order.now.entries in
    let n : ℕ = length es in
    let test = c.around-test.true in
    let end = c.len-turn-end.ensures.len in
    let k : ℕ = n - (c.around._turn + 1) in
    let more : n - c.around._turn ≡ k + 1 = omega arith in
    let was = rw more at c.around.invariant.0.entries in
    rw was (turned_to-some c.args.file c.args.below k es (omega arith))

pub around-preserved : goal.around-preserved
around-preserved g c =
    let es = c.args.order.now.entries in
    let n : ℕ = length es in
    let test = c.around-test.true in
    let end = c.len-turn-end.ensures.len in
    let k : ℕ = n - (c.around._turn + 1) in
    let more : n - c.around._turn ≡ k + 1 = omega arith in
    let was = rw more at c.around.invariant.0.entries in
    let old = c.around.invariant.0.bytes_are in
    let new = c.take_or_turn-bytes.ensures.bytes in (
      record {
        entries = c.take_or_turn-bytes.ensures.entries
            ∙ ap (turned c.args.file c.args.below) was
            ∙ turned-turned_to c.args.file c.args.below k es (omega arith);
        bytes_are = omega arith;
      },
      empties_more c.args.order.now c.around.order c.take_or_turn-bytes.new.order c.around.invariant.1
          c.take_or_turn-bytes.ensures.slots,
    )
