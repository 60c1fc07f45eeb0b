use Rattle.render_run.proofs.WorkerLemmas.{synced}
use Rattle.render_run.proofs.round.answer_hooked.Goals as goal

pub returns-in-Sync : goal.returns-in-Sync
returns-in-Sync g c =
    rw c.in-Sync.is (synced g.T.Tap.state g.T.W.World.files c.args.caller.now)
