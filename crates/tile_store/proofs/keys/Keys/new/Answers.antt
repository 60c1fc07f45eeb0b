use Rattle.std.proofs.Common.{ap, ◌∙◌, ◌+◌, replicate, arith}
use Rattle.tile_store.proofs.RelinkLemmas.{none_chained}
use Rattle.tile_store.proofs.keys.Keys.new.Goals as goal

pub invariant_of-result : goal.invariant_of-result
invariant_of-result c =
    none_chained _ _ c.args.slots c.in_ok-none_yet.ensures
    (c.in_ok-all_at.ensures ∙ ap (λ n. replicate (c.args.slots + n) c.args.slots) c.chains_for.ensures) (omega arith)
