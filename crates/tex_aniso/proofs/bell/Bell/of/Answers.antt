use Rattle.std.proofs.Common.{◌-◌, ◌∙◌, ap}
use Rattle.tex_aniso.proofs.BellLemmas.{cut_few}
use Rattle.tex_aniso.proofs.bell.Bell.of.Goals as goal

pub invariant_of-result-clause-is_cut : goal.invariant_of-result-clause-is_cut
invariant_of-result-clause-is_cut c =
    c.saturating_sub.ensures ∙ ap (λ d. d - 16) c.digits.ensures.value

pub invariant_of-result-clause-few : goal.invariant_of-result-clause-few
invariant_of-result-clause-few c =
    rw (c.saturating_sub.ensures, c.digits.ensures.value) (cut_few c.args.reach c.requires.high)
