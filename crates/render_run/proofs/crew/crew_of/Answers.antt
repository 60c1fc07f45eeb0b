use Rattle.std.proofs.Common.{length}
use Rattle.render_run.proofs.Manned.{taps_back}
use Rattle.render_run.proofs.crew.crew_of.Goals as goal

pub returns-in-Err-clause-back : goal.returns-in-Err-clause-back
returns-in-Err-clause-back g c =
    taps_back (length c.fill_crew.new.posts.items) _ _ _ _ c.fill_crew.ensures.made c.give_back.ensures
