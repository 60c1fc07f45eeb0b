-- Each form has its own values.
use Rattle.texture_sys.proofs.asking.place_for.Goals as goal

pub returns-in-Points-clause-told : goal.returns-in-Points-clause-told
returns-in-Points-clause-told g c =
    λ v is. rw c.in-Points.is (rw c.at.ensures at (c.lookup_fine.ensures.told v is))

pub returns-in-Footprints-clause-told : goal.returns-in-Footprints-clause-told
returns-in-Footprints-clause-told g c =
    λ v is. rw c.in-Footprints.is (rw c.at-in-Footprints.ensures at (c.ellipse.ensures.told v is))
