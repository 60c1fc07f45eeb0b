-- Each form has its own values.
use Rattle.texture_sys.proofs.asking.lookup_for.Goals as goal

pub returns-in-Coarse-clause-told : goal.returns-in-Coarse-clause-told
returns-in-Coarse-clause-told g c = λ v is. rw c.in-Coarse.is (c.coarse_for.ensures.told v is)

pub returns-in-Fine-clause-told : goal.returns-in-Fine-clause-told
returns-in-Fine-clause-told g c = λ v is. rw c.in-Fine.is (c.lookup_fine.ensures.told v is)

pub returns-in-Probes-clause-told : goal.returns-in-Probes-clause-told
returns-in-Probes-clause-told g c = λ v is. rw c.in-Probes.is (c.probes.ensures.told v is)

pub returns-in-Ellipse-clause-told : goal.returns-in-Ellipse-clause-told
returns-in-Ellipse-clause-told g c = λ v is. rw c.in-Ellipse.is (c.ellipse.ensures.told v is)
