-- Each form has its own values.
use Rattle.texture_sys.proofs.asking.coarse_for.Goals as goal

pub returns-in-Point-clause-told : goal.returns-in-Point-clause-told
returns-in-Point-clause-told g c = λ v is. rw c.in-Point.is (c.lookup.ensures.told v is)

pub returns-in-Footprint-clause-told : goal.returns-in-Footprint-clause-told
returns-in-Footprint-clause-told g c =
    λ v is. rw c.in-Footprint.is (c.derivs.ensures.told v is)
