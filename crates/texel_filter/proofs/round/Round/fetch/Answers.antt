use Rattle.texel_filter.proofs.CallLemmas.{on_ok}
use Rattle.texel_filter.proofs.RoundLemmas.{round_of_square}
use Rattle.texel_filter.proofs.round.Round.fetch.Goals as goal

pub returns-in-Some-Some-Some-Some-clause-told : goal.returns-in-Some-Some-Some-Some-clause-told
returns-in-Some-Some-Some-Some-clause-told g c = λ values is.
    let w = c.in-Some-Some-Some-Some in
    on_ok c.square.result (c.square.ensures.told values is)
    (λ h. round_of_square values c.args.self.now w.left w.right w.top w.bottom c.args.channels
    c.square.new.out w.is-0 w.is-1 w.is-2 w.is-3 h)
