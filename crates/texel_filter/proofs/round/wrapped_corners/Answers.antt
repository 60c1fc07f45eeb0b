use Rattle.std.proofs.Common.{rules}
use Rattle.texel_filter.proofs.RoundLemmas.{visits_at, wrapped_of_round}
use Rattle.texel_filter.proofs.round.wrapped_corners.Goals as goal

pub returns-in_err-fetch-clause-left : goal.returns-in_err-fetch-clause-left
returns-in_err-fetch-clause-left g c =
    let h = rw (visits_at _ _ _ _ c.at-round.ensures) at c.in_err-fetch.ensures.left in
    search rules

pub returns-clause-told : goal.returns-clause-told
returns-clause-told g c = λ values is.
    wrapped_of_round _ values _ _ c.at-round.result c.args.channels c.fetch.new.out
    c.at-round.ensures (c.in_ok-fetch.ensures.told values is)

pub returns-clause-left : goal.returns-clause-left
returns-clause-left g c =
    rw (visits_at _ _ _ _ c.at-round.ensures) at c.in_ok-fetch.ensures.left
