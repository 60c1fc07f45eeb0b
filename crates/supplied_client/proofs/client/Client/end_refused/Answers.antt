-- C repeats a call whose waiter gave up.
use Rattle.std.proofs.Common.{refl, inr, sym, subst}
use Rattle.waiter.specs.declared.tries.GaveUp.{GaveUp}
use Rattle.tile_source.specs.declared.error.CacheError.{CacheError}
use Rattle.supplied_client.specs.Client.{EndsRound}
use Rattle.supplied_client.specs.Code.{code_of}
use Rattle.supplied_client.proofs.client.Client.end_refused.Goals as goal

pub returns-in-Busy : goal.returns-in-Busy
returns-in-Busy c =
    subst (λ (e : CacheError GaveUp). EndsRound (code_of e) c.args.self.now c.end_repeated.new.self)
    (sym c.in-Busy.is) (c.end_repeated.ensures 19 (inr (inr refl)))
