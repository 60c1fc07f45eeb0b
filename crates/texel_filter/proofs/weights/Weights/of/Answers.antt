use Rattle.std.proofs.Common.{arith}
use Rattle.texel_filter.proofs.SumLemmas.{whole_weights}
use Rattle.texel_filter.proofs.weights.Weights.of.Goals as goal

pub invariant_of-result : goal.invariant_of-result
invariant_of-result c = record {
  whole = whole_weights c.from-right.result c.from-bottom.result (omega arith) (omega arith);
}
