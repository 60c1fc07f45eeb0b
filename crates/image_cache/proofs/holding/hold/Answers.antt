-- The tile is taken in hand, and then held.
use Rattle.tile_source.proofs.SourceLemmas.{call_then}
use Rattle.image_cache.proofs.HoldLemmas.{takes_hold, holds_refused, holds_kept}
use Rattle.image_cache.proofs.holding.hold.Goals as goal

pub returns-in_err-take_in_hand-clause-left : goal.returns-in_err-take_in_hand-clause-left
returns-in_err-take_in_hand-clause-left g c =
    holds_refused _ c.from_residual.ensures.1 c.in_err-take_in_hand.ensures.made

pub returns-clause-ok : goal.returns-clause-ok
returns-clause-ok g c =
    takes_hold g.T.W.World.files c.args.source.now.store.now.gate.cut c.args.cell.now.key
    c.args.source.now.pass.now c.take_in_hand.new.self.pass.now c.keep_hold.new.source.pass.now
    c.in_ok-take_in_hand.ensures.made.steps.left.need.holds c.in_ok-take_in_hand.ensures.hand
    c.keep_hold.ensures.held

pub returns-clause-call : goal.returns-clause-call
returns-clause-call g c =
    call_then c.in_ok-take_in_hand.ensures.made.steps.call c.keep_hold.ensures.call

pub returns-clause-left : goal.returns-clause-left
returns-clause-left g c =
    holds_kept c.in_ok-take_in_hand.ensures.made c.keep_hold.ensures.call c.keep_hold.ensures.tap
    c.keep_hold.ensures.seat c.keep_hold.ensures.view c.keep_hold.ensures.same
    c.keep_hold.ensures.hand
