use Rattle.texel_filter.proofs.SumLemmas.{scaled_sum}
use Rattle.texel_filter.proofs.weighted.Weighted.narrow_sum.Goals as goal

pub returns-clause-value : goal.returns-clause-value
returns-clause-value c =
    rw (
      c.requires.narrow,
      c.from.ensures,
      c.from-2.ensures,
      c.from-3.ensures,
      c.from-4.ensures,
      c.from-5.ensures,
    ) (scaled_sum _ _ _ _ _ _ _ _)
