use Rattle.tiff_plain.proofs.levels.+leading_levels.Given as goal

abbrev pub decreases-leading_levels : goal.decreases-leading_levels
decreases-leading_levels l = l.n
