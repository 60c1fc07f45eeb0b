use Rattle.std.proofs.Common.{◌≡◌, ◌≤◌, ◌∙◌, arith}
use Rattle.std.proofs.lemmas.List.{length-set}
use Rattle.texel_filter.specs.Weighted.{sum_of, max_sum}
use Rattle.texel_filter.proofs.SumLemmas.{one_more}
use Rattle.texel_filter.proofs.weighted.Weighted.channel_sums.Goals as goal

pub narrow-preserved : goal.narrow-preserved
narrow-preserved c =
    let so_far = c.narrow.invariant in
    record {
      long = length-set c.narrow.sums c.narrow.c _ ∙ so_far.long;
      value = one_more (λ k sum. sum ≡ sum_of c.args.self.now k) c.narrow.c c.narrow.sums _
          (omega arith) so_far.value c.narrow_sum.ensures.value;
      high = one_more (λ k sum. sum ≤ max_sum) c.narrow.c c.narrow.sums _ (omega arith)
          so_far.high c.narrow_sum.ensures.high;
    }

pub wide-preserved : goal.wide-preserved
wide-preserved c =
    let so_far = c.wide.invariant in
    record {
      long = length-set c.wide.sums c.wide.c _ ∙ so_far.long;
      value = one_more (λ k sum. sum ≡ sum_of c.args.self.now k) c.wide.c c.wide.sums _
          (omega arith) so_far.value c.wide_sum.ensures.value;
      high = one_more (λ k sum. sum ≤ max_sum) c.wide.c c.wide.sums _ (omega arith)
          so_far.high c.wide_sum.ensures.high;
    }
