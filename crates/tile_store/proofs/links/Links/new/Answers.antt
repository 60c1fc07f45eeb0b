use Rattle.std.proofs.Common.{arith}
use Rattle.tile_store.proofs.LinkLemmas.{none_linked}
use Rattle.tile_store.proofs.links.Links.new.Goals as goal

pub invariant_of-result : goal.invariant_of-result
invariant_of-result c =
    none_linked _ _ c.args.places (omega arith) c.in_ok-all_at.ensures c.in_ok-all_at-2.ensures
