use Rattle.std.proofs.Common.{◌<◌, refl, ap, sym, ◌∙◌, arith}
use Rattle.tile_store.specs.CachedTile.{loose_bytes}
use Rattle.tile_store.specs.Changes.{kept_within}
use Rattle.tile_store.proofs.EvictLemmas.{any_unpinned, length-without_last}
use Rattle.tile_store.proofs.WithinLemmas.{kept_within-all, kept_within-without_last}
use Rattle.tile_store.proofs.LeftLemmas.{same_empties, evicted_empties, empties_more}
use Rattle.tile_store.proofs.evict.evict_past.Goals as goal

pub evict-left-requires : goal.evict-left-requires
evict-left-requires g c =
    let over = c.evicting-test.true in
    let is = c.evicting.invariant.0.loose_is in
    any_unpinned c.evicting.order.entries (omega arith)

pub evicting-init : goal.evicting-init
evicting-init g c = (
  record { loose_is = c.requires; kept = refl },
  same_empties c.args.order.now c.args.order.now (record { slots = refl; left = refl }),
)

pub evicting-smaller : goal.evicting-smaller
evicting-smaller g c =
    let over = c.evicting-test.true in
    let is = c.evicting.invariant.0.loose_is in
    let some = any_unpinned c.evicting.order.entries (omega arith) in
    rw c.evict-left.ensures.entries (omega (arith, length-without_last c.evicting.order.entries some))

pub evicting-preserved : goal.evicting-preserved
evicting-preserved g c =
    let over = c.evicting-test.true in
    let is = c.evicting.invariant.0.loose_is in
    let left = c.evict-left.ensures.bytes in
    let past : c.args.share < loose_bytes c.evicting.order.entries = omega arith in (
      record {
        loose_is = omega arith;
        kept = ap (kept_within c.args.share) c.evict-left.ensures.entries
            ∙ kept_within-without_last c.args.share c.evicting.order.entries past
            ∙ c.evicting.invariant.0.kept;
      },
      empties_more c.args.order.now c.evicting.order c.evict-left.new.order c.evicting.invariant.1
          (evicted_empties c.evicting.order c.evict-left.new.order c.evict-left.ensures.slots),
    )

pub returns-clause-entries : goal.returns-clause-entries
returns-clause-entries g c =
    let under = c.evicting-test.false in
    let is = c.evicting.invariant.0.loose_is in
    sym (kept_within-all c.args.share c.evicting.order.entries (omega arith)) ∙ c.evicting.invariant.0.kept
