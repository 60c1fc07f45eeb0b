use Rattle.std.proofs.Common.{sym, arith}
use Rattle.std.proofs.lemmas.Int.{ints}
use Rattle.texel_filter.proofs.WrapLemmas.{wrapped_there}
use Rattle.texel_filter.proofs.index.wrap.Goals as goal

pub returns-then-i-from-clause-value : goal.returns-then-i-from-clause-value
returns-then-i-from-clause-value c =
    sym (wrapped_there c.args.mode c.args.i _ c.args.n (omega (arith, ints)) (omega (arith, ints)))
