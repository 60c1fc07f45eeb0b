use Rattle.std.proofs.Common.{length, ap, arith}
use Rattle.std.proofs.Common.{refl}
use Rattle.tile_store.specs.Order.MakesRoom.{stays, evicts}
use Rattle.tile_store.proofs.EvictLemmas.{length-without_last}
use Rattle.tile_store.proofs.LeftLemmas.{evicted_empties}
use Rattle.tile_store.proofs.ShardLemmas.{any_by_count}
use Rattle.tile_store.proofs.evict.make_room.Goals as goal

pub evict-requires : goal.evict-requires
evict-requires g c =
    let few = c.requires in
    let over = c.if-len-slots.false in
    let long = c.len.ensures.len in
    let count = c.slots.ensures in
    any_by_count c.args.order.now.entries (omega arith)

pub returns-then-len-slots-clause-slots : goal.returns-then-len-slots-clause-slots
returns-then-len-slots-clause-slots g c = stays (record { slots = refl; left = refl })

pub returns-else-len-slots-clause-free : goal.returns-else-len-slots-clause-free
returns-else-len-slots-clause-free g c =
    let old = c.args.order.now in
    let most = c.len.ensures.most in
    let few = c.requires in
    let over = c.if-len-slots.false in
    let long = c.len.ensures.len in
    let count = c.slots.ensures in
    let less = length-without_last old.entries (any_by_count old.entries (omega arith)) in
    let left = ap length c.evict.ensures.entries in
    let same = (evicted_empties old c.evict.new.order c.evict.ensures.slots).count in
    omega arith

pub returns-else-len-slots-clause-slots : goal.returns-else-len-slots-clause-slots
returns-else-len-slots-clause-slots g c = evicts c.evict.ensures.slots
