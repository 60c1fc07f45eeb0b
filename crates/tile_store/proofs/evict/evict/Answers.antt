use Rattle.std.proofs.Common.{◌∙◌}
use Rattle.tile_store.proofs.EvictLemmas.{last_leaves}
use Rattle.tile_store.proofs.evict.evict.Goals as goal

pub returns-in-Some-clause-entries : goal.returns-in-Some-clause-entries
returns-in-Some-clause-entries g c =
    let leaves = last_leaves _ _ _ c.len.ensures.valid c.in-Some.ensures.last in
    c.pop.ensures.entries ∙ leaves.entries

pub returns-in-Some-clause-bytes : goal.returns-in-Some-clause-bytes
returns-in-Some-clause-bytes g c =
    let leaves = last_leaves _ _ _ c.len.ensures.valid c.in-Some.ensures.last in
    rw (c.pop.ensures.entries, leaves.entries) leaves.loose
